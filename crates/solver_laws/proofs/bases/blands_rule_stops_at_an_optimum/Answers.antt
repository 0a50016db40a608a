use Rattle.solver_laws.proofs.OneStep.{no_step}
use Rattle.solver_laws.proofs.bases.blands_rule_stops_at_an_optimum.Goals as goal

pub returns : goal.returns
returns c = no_step
