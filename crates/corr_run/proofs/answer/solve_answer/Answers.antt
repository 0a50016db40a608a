use Rattle.std.proofs.Common.{refl}
use Rattle.corr_run.specs.SolveAnswer.{too_long, one_node}
use Rattle.corr_run.specs.Lines.{too_long_line}
use Rattle.corr_run.proofs.answer.solve_answer.Goals as goal

pub returns-then-input-gt-SOLVE_LIMIT : goal.returns-then-input-gt-SOLVE_LIMIT
unfolding too_long_line
returns-then-input-gt-SOLVE_LIMIT c = too_long c.if-input-gt-SOLVE_LIMIT.true c.in_ok-from_slice.ensures.items refl

pub returns-in_ok-report_of-in-Some : goal.returns-in_ok-report_of-in-Some
returns-in_ok-report_of-in-Some c = one_node c.if-input-gt-SOLVE_LIMIT.false c.in-Some.pay c.in-Some.ensures.found c.in_ok-report_of-in-Some.ensures refl

pub general_answer-requires-clause-general : goal.general_answer-requires-clause-general
general_answer-requires-clause-general c = record { short = c.if-input-gt-SOLVE_LIMIT.false; other = λ pay form. cc (c.in-None.ensures.only pay form) }
