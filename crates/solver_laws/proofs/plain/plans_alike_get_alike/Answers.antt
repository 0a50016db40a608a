use Rattle.solver_laws.proofs.PlansPlayed.{get_alike}
use Rattle.solver_laws.proofs.plain.plans_alike_get_alike.Goals as goal

pub returns : goal.returns
returns c = get_alike
