use Rattle.solver_laws.proofs.FirstPhase.{not_lowered}
use Rattle.solver_laws.proofs.first_phase.stuck_tableaus_are_not_lowered.Goals as goal

pub returns : goal.returns
returns c = not_lowered
