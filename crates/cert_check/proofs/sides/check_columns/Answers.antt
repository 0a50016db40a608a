-- A column more keeps its rules, or breaks one of them first.
use Rattle.std.proofs.Common.{rules, arith, below_more, pos, List, ◌<◌, slice_index_or, FitsSigned}
use Rattle.std.specs.Int.{w128}
use Rattle.std.proofs.lemmas.Int.{to_z-of_z}
use Rattle.corr_num.proofs.PrintedTerms.{narrow_returned}
use Rattle.corr_game.specs.Game.{GameView}
use Rattle.report_form.specs.declared.reports.Corner.{Corner}
use Rattle.report_form.specs.declared.verdicts.Cause.{Cause}
use Rattle.cert_check.specs.Certified.{FailsAt, Passes, whole_of}
use Rattle.cert_check.specs.Ends.{IsBreak}
use Rattle.cert_check.specs.Rules.{by_column}
use Rattle.cert_check.specs.SideRules.{IsFirstCause, SideRule, sign, width}
use Rattle.cert_check.proofs.FirstBroken.{column_breaks, columns_hold}
use Rattle.column_sums.proofs.RestOfRow.{get_default}
use Rattle.cert_check.proofs.RuleEnds.{break_for, column_fails, column_holds, error_named}
use Rattle.cert_check.proofs.sides.check_columns.Goals as goal

pub loop-col-preserved : goal.loop-col-preserved
loop-col-preserved c =
    let first = c.in_ok-first.first.items in
    let second = c.in_ok-second.second.items in
    let col = c.loop-col.col in
    let one = get_default first col c.index.result.now (omega (arith, c.loop-col-test.true, c.len-col-end.ensures)) c.index.ensures in
    let two = get_default second col c.index-in-loop-col.result.now (omega (arith, c.loop-col-test.true, c.len-col-end.ensures, c.in_ok-first.ensures.count, c.in_ok-second.ensures.count)) c.index-in-loop-col.ensures in
    let one_fits : FitsSigned w128 c.index.result.now = search rules in
    let two_fits : FitsSigned w128 c.index-in-loop-col.result.now = search rules in
    let here = rw (to_z-of_z w128 c.index.result.now one_fits, to_z-of_z w128 c.index-in-loop-col.result.now two_fits, one, two) at c.in_ok-check_column.ensures.held in
    below_more (λ k. Passes c.args.side.now.dir (slice_index_or first k (pos 0)) (slice_index_or second k (pos 0))) col c.loop-col.invariant here

pub returns-clause-held : goal.returns-clause-held
returns-clause-held c = λ g corners.
    let side = c.args.side.now in
    let lp = whole_of c.args.program.now in
    let den = narrow_returned side.den c.requires.den.1 in
    columns_hold (SideRule g lp corners side) width sign 0 _
    (λ k low high. column_holds g lp corners side k _ _ (rw den at c.in_ok-first.ensures.left k) (rw den at c.in_ok-second.ensures.left k)
    (c.loop-col.invariant k (omega (arith, high, c.loop-col-test.false, c.len-col-end.ensures, c.in_ok-first.ensures.count))))

pub returns-in_err-check_column-clause-broken : goal.returns-in_err-check_column-clause-broken
returns-in_err-check_column-clause-broken c =
    let side = c.args.side.now in
    let lp = whole_of c.args.program.now in
    let cols = c.args.program.now.more.cols in
    let first = c.in_ok-first.first.items in
    let second = c.in_ok-second.second.items in
    let col = c.loop-col.col in
    let one = get_default first col c.index.result.now (omega (arith, c.loop-col-test.true, c.len-col-end.ensures)) c.index.ensures in
    let two = get_default second col c.index-in-loop-col.result.now (omega (arith, c.loop-col-test.true, c.len-col-end.ensures, c.in_ok-first.ensures.count, c.in_ok-second.ensures.count)) c.index-in-loop-col.ensures in
    let one_fits : FitsSigned w128 c.index.result.now = search rules in
    let two_fits : FitsSigned w128 c.index-in-loop-col.result.now = search rules in
    let here = rw (to_z-of_z w128 c.index.result.now one_fits, to_z-of_z w128 c.index-in-loop-col.result.now two_fits, one, two) at c.in_err-check_column.ensures.broken in
    let den = narrow_returned side.den c.requires.den.1 in
    let Fails : Cause → Type 0 = FailsAt side.dir (slice_index_or first col (pos 0)) (slice_index_or second col (pos 0)) in
    let Broken : Cause → Type 0 = λ cause. (g : GameView) (corners : List Corner)
    → IsFirstCause (SideRule g lp corners side) (by_column width sign 0 cols) cause in
    let inside : col < cols = omega (arith, c.loop-col-test.true, c.len-col-end.ensures, c.in_ok-first.ensures.count) in
    error_named _ _ (IsBreak Broken) c.from_residual-in_err-check_column.ensures.1
    (break_for Fails Broken c.in_err-check_column.field-0.0
    (λ cause fails g corners.
    let rule = column_fails g lp corners side col _ _ (rw den at c.in_ok-first.ensures.left col) (rw den at c.in_ok-second.ensures.left col) cause fails in (
      rule.0,
      rule.1,
      column_breaks (SideRule g lp corners side) width sign 0 cols col rule.0 (omega arith) (omega (arith, inside))
          (λ k low below. column_holds g lp corners side k _ _ (rw den at c.in_ok-first.ensures.left k) (rw den at c.in_ok-second.ensures.left k)
          (c.loop-col.invariant k below)) rule.2,
    ))
    here)
