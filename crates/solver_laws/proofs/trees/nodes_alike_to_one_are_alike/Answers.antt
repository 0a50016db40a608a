use Rattle.solver_laws.proofs.OnePath.{alike_on}
use Rattle.solver_laws.proofs.trees.nodes_alike_to_one_are_alike.Goals as goal

pub returns : goal.returns
returns c = alike_on
