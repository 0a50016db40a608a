use Rattle.std.proofs.Common.{◌≤◌, length, refl, rules}
use Rattle.corr_run.specs.CheckAnswer.{no_report, too_long}
use Rattle.corr_run.specs.Lines.{report_too_long_line}
use Rattle.corr_run.proofs.checking.check_answer.Goals as goal

pub returns-then-input-gt-CHECK_LIMIT : goal.returns-then-input-gt-CHECK_LIMIT
unfolding report_too_long_line
returns-then-input-gt-CHECK_LIMIT c = too_long c.if-input-gt-CHECK_LIMIT.true c.in_ok-from_slice.ensures.items refl

pub returns-in_ok-answer-in-Err-Syntax : goal.returns-in_ok-answer-in-Err-Syntax
returns-in_ok-answer-in-Err-Syntax c =
    let within : c.in-Err-Syntax.at ≤ length c.args.input.now = search rules in
    no_report c.if-input-gt-CHECK_LIMIT.false c.in-Err-Syntax.at within c.in_ok-answer-in-Err-Syntax.ensures.text c.in_ok-answer-in-Err-Syntax.ensures.status
