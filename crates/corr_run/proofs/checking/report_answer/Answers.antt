-- A refusal of the file behind the report.
use Rattle.std.proofs.Common.{drop}
use Rattle.corr_run.specs.CheckAnswer.{refused}
use Rattle.corr_run.specs.FirstRefusal.{IsOfFile, of_file}
use Rattle.corr_run.proofs.checking.report_answer.Goals as goal

pub returns-in_ok-answer-in-Err-Refused : goal.returns-in_ok-answer-in-Err-Refused
returns-in_ok-answer-in-Err-Refused c =
    let here : IsOfFile c.split_at.result.1.now c.in-Err-Refused.refusal = rw c.in-Err-Refused.field-0-is at c.in-Err-Refused.ensures.refused in
    let first : IsOfFile (drop c.args.place c.args.input.now) c.in-Err-Refused.refusal = rw (← c.split_at.ensures.back) here in
    refused c.requires.short c.args.place c.args.report.now c.requires.read
    c.in-Err-Refused.refusal (of_file first) c.in_ok-answer-in-Err-Refused.ensures.text c.in_ok-answer-in-Err-Refused.ensures.status
