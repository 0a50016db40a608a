use Rattle.solver_laws.proofs.FirstPhase.{answer_true}
use Rattle.solver_laws.proofs.first_phase.answers_are_true.Goals as goal

pub returns : goal.returns
returns c = answer_true
