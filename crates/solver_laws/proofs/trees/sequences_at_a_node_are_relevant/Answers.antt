use Rattle.solver_laws.proofs.OnePath.{own_relevant}
use Rattle.solver_laws.proofs.trees.sequences_at_a_node_are_relevant.Goals as goal

pub returns : goal.returns
returns c = own_relevant
