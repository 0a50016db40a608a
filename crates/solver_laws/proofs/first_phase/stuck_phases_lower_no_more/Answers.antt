use Rattle.solver_laws.proofs.FirstPhase.{stuck_exactly}
use Rattle.solver_laws.proofs.first_phase.stuck_phases_lower_no_more.Goals as goal

pub returns : goal.returns
returns c = stuck_exactly
