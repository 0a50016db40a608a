use Rattle.solver_laws.proofs.OnePath.{not_met_from_own}
use Rattle.solver_laws.proofs.trees.recalled_sets_are_not_met_from_themselves.Goals as goal

pub returns : goal.returns
returns c = not_met_from_own
