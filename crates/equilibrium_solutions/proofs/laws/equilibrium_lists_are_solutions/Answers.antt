use Rattle.equilibrium_solutions.proofs.Same.{same}
use Rattle.equilibrium_solutions.proofs.laws.equilibrium_lists_are_solutions.Goals as goal

pub returns : goal.returns
returns c = same
