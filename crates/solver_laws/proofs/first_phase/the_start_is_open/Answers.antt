use Rattle.solver_laws.proofs.FirstPhase.{start_open}
use Rattle.solver_laws.proofs.first_phase.the_start_is_open.Goals as goal

pub returns : goal.returns
returns c = start_open
