-- The rules in their order: one number a row, the point, then the columns.
use Rattle.std.proofs.Common.{◌≡◌, List}
use Rattle.corr_game.specs.Game.{GameView}
use Rattle.report_form.specs.Points.{points_of}
use Rattle.report_form.specs.declared.reports.Corner.{Corner}
use Rattle.report_form.specs.declared.verdicts.Cause.{Cause}
use Rattle.cert_check.specs.Certified.{whole_of}
use Rattle.cert_check.specs.Ends.{IsBreak}
use Rattle.cert_check.specs.Rules.{by_column}
use Rattle.cert_check.specs.SideRules.{IsFirstCause, SideRule, side_rules, sign, width}
use Rattle.cert_check.proofs.CheckedSides.{at_corner, column_first, side_true}
use Rattle.cert_check.proofs.RuleEnds.{break_for, error_named}
use Rattle.cert_check.proofs.sides.check_side.Goals as goal

pub returns-clause-held : goal.returns-clause-held
returns-clause-held c = λ corners same.
    let lengths = c.in_ok-keep.ensures.holds in
    let at = at_corner c.args.game.now corners c.args.points.now c.args.side.now _ same c.requires.ranges.1 c.index-points-side.is (c.has_point.ensures.0 c.in_ok-keep-2.ensures.holds) in
    side_true c.args.game.now c.args.program.now.base c.args.program.now.more corners c.args.side.now (c.has_lengths.ensures.first lengths)
    (c.has_lengths.ensures.second lengths) at (c.in_ok-check_columns.ensures.held c.args.game.now corners)

pub returns-in_err-check_columns-clause-broken : goal.returns-in_err-check_columns-clause-broken
returns-in_err-check_columns-clause-broken c =
    let g = c.args.game.now in
    let lp = whole_of c.args.program.now in
    let side = c.args.side.now in
    let lengths = c.in_ok-keep.ensures.holds in
    let Fails : Cause → Type 0 = λ cause. (h : GameView) (corners : List Corner)
    → IsFirstCause (SideRule h lp corners side) (by_column width sign 0 c.args.program.now.more.cols) cause in
    let Broken : Cause → Type 0 = λ cause. (corners : List Corner) → c.args.points.now ≡ points_of corners
    → IsFirstCause (SideRule g lp corners side) (side_rules lp) cause in
    error_named _ _ (IsBreak Broken) c.from_residual-in_err-check_columns.ensures.1
    (break_for Fails Broken c.in_err-check_columns.field-0.0
    (λ cause fails corners same.
    let at = at_corner g corners c.args.points.now side _ same c.requires.ranges.1 c.index-points-side.is (c.has_point.ensures.0 c.in_ok-keep-2.ensures.holds) in
    column_first g c.args.program.now.base c.args.program.now.more corners side cause (c.has_lengths.ensures.first lengths)
    (c.has_lengths.ensures.second lengths) at (fails g corners))
    c.in_err-check_columns.ensures.broken)
