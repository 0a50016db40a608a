use Rattle.solver_laws.proofs.PlansPlayed.{set_by_set}
use Rattle.solver_laws.proofs.plain.plans_are_reduced_set_by_set.Goals as goal

pub returns : goal.returns
returns c = set_by_set
