use Rattle.solver_laws.proofs.OnePath.{met_from_above}
use Rattle.solver_laws.proofs.trees.sets_are_met_from_above.Goals as goal

pub returns : goal.returns
returns c = met_from_above
