use Rattle.equilibrium_solutions.proofs.Same.{pays}
use Rattle.equilibrium_solutions.proofs.laws.programs_pay_what_following_pays.Goals as goal

pub returns : goal.returns
returns c = pays
