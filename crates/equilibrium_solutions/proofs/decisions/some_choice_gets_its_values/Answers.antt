use Rattle.equilibrium_solutions.proofs.Solving.{solved}
use Rattle.equilibrium_solutions.proofs.decisions.some_choice_gets_its_values.Goals as goal

pub returns : goal.returns
returns c = solved
