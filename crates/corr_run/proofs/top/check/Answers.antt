use Rattle.std.proofs.Common.{arith}
use Rattle.corr_run.specs.CheckAnswer.{CheckAnswer}
use Rattle.corr_run.proofs.Endings.{ends_unread, ends_no_memory, ends_written, report_too_long_still}
use Rattle.corr_run.proofs.top.check.Goals as goal

pub returns-in-Err-Unread-clause-ends : goal.returns-in-Err-Unread-clause-ends
returns-in-Err-Unread-clause-ends g c = ends_unread CheckAnswer _ _

pub returns-in-Err-NoMemory-clause-ends : goal.returns-in-Err-NoMemory-clause-ends
returns-in-Err-NoMemory-clause-ends g c = ends_no_memory CheckAnswer _ _

pub returns-in-Ok-check_answer-clause-ends : goal.returns-in-Ok-check_answer-clause-ends
returns-in-Ok-check_answer-clause-ends g c = ends_written CheckAnswer _ _ _ _ c.in-Ok.input.items c.in-Ok-check_answer.answer.text.items c.in-Ok-check_answer.answer.status _ 1073741824 c.in-Ok.ensures.read
    (λ short. c.in-Ok.ensures.whole (omega (arith, c.in-Ok.input.ok.0)))
    (λ input long longer answer. report_too_long_still long longer answer)
    (rw c.as_slice.ensures.value at c.in-Ok-check_answer.ensures)
    (rw c.as_slice-in-Ok-check_answer.ensures.value at c.write_whole.ensures.writes)

pub returns-clause-ends : goal.returns-clause-ends
returns-clause-ends g c = ends_no_memory CheckAnswer _ _
