-- A refusal's line, or a report's text.
use Rattle.corr_run.specs.SolveAnswer.{refused, reported}
use Rattle.corr_run.proofs.answer.general_answer.Goals as goal

pub returns-in_ok-answer-in-Left : goal.returns-in_ok-answer-in-Left
returns-in_ok-answer-in-Left c =
    let first = rw c.in-Left.is at c.in_ok-refusal.ensures in
    refused c.requires.general c.in-Left.refusal first c.in_ok-answer-in-Left.ensures.text c.in_ok-answer-in-Left.ensures.status

pub returns-in_ok-answer-in-Right : goal.returns-in_ok-answer-in-Right
returns-in_ok-answer-in-Right c =
    let on = rw c.in-Right.is at c.in_ok-refusal.ensures in
    reported c.requires.general c.in-Right.report on c.in_ok-answer-in-Right.ensures.text c.in_ok-answer-in-Right.ensures.status
