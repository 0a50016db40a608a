use Rattle.solver_laws.proofs.FirstPhase.{one_answer}
use Rattle.solver_laws.proofs.first_phase.a_tableau_has_one_answer.Goals as goal

pub returns : goal.returns
returns c = one_answer
