use Rattle.solver_laws.proofs.OnePath.{connected_met}
use Rattle.solver_laws.proofs.trees.connected_sets_are_met.Goals as goal

pub returns : goal.returns
returns c = connected_met
