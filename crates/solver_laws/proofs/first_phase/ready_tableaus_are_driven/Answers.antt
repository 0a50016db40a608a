use Rattle.solver_laws.proofs.FirstPhase.{ready_driven}
use Rattle.solver_laws.proofs.first_phase.ready_tableaus_are_driven.Goals as goal

pub returns : goal.returns
returns c = ready_driven
