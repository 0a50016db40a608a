use Rattle.text_laws.proofs.WorkAnswers.{solve_refuses_work, work_refused_once, work_refuses_solve}
use Rattle.text_laws.proofs.answers.work_refuses_what_solve_refuses.Goals as goal

pub returns-clause-one : goal.returns-clause-one
returns-clause-one c = work_refused_once

pub returns-clause-by_solve : goal.returns-clause-by_solve
returns-clause-by_solve c = solve_refuses_work

pub returns-clause-nothing_else : goal.returns-clause-nothing_else
returns-clause-nothing_else c = work_refuses_solve
