use Rattle.solver_laws.proofs.FirstPhase.{one_list}
use Rattle.solver_laws.proofs.first_phase.multipliers_are_one_list.Goals as goal

pub returns : goal.returns
returns c = one_list
