use Rattle.equilibrium_solutions.proofs.Same.{choice_gains}
use Rattle.equilibrium_solutions.proofs.decisions.a_choice_gains_what_it_gets_more.Goals as goal

pub returns : goal.returns
returns c = choice_gains
