-- There are as many points as corners; the belt, then the sides in order.
use Rattle.std.proofs.Common.{◌≡◌, List, All, length, ap, refl, ◌∙◌, arith}
use Rattle.std.proofs.lemmas.List.{length-map}
use Rattle.corr_game.specs.declared.notions.Notion.{Notion}
use Rattle.plane_hull.specs.Belt.{IsBelt}
use Rattle.plane_hull.specs.BeltFault.{IsFaultOf}
use Rattle.plane_hull.specs.declared.sides.Point.{Point}
use Rattle.report_form.specs.Points.{points_of}
use Rattle.report_form.specs.Ranges.{IsSide}
use Rattle.report_form.specs.declared.reports.Block.TheVariants.{Found}
use Rattle.report_form.specs.declared.reports.Corner.{Corner}
use Rattle.cert_check.specs.Certified.{whole_of}
use Rattle.cert_check.specs.Ends.{IsFaultWith}
use Rattle.cert_check.specs.SideRules.{IsFirstCause, SideRule, side_rules}
use Rattle.cert_check.specs.Truth.{IsBlockFault, IsTrueCorner, IsTrueSide}
use Rattle.report_form.specs.declared.verdicts.Cause.{Cause}
use Rattle.report_form.specs.declared.verdicts.Cause.TheVariants as causes
use Rattle.report_form.specs.declared.verdicts.Item.{Item}
use Rattle.report_form.specs.declared.verdicts.Item.TheVariants as item
use Rattle.cert_check.proofs.CheckedBlocks.{all_before, belt_fault, one_before, side_fault}
use Rattle.cert_check.proofs.Elements.{all_at}
use Rattle.cert_check.proofs.RuleEnds.{break_for, error_named, fault_at, fault_for}
use Rattle.cert_check.proofs.blocks.check_sides.Goals as goal

pub check_belt-requires-clause-ranges : goal.check_belt-requires-clause-ranges
check_belt-requires-clause-ranges c =
    let count : length c.in_ok-points.points.items ≡ length c.args.corners.now = ap (λ (ps : List Point). length ps) c.in_ok-points.ensures ∙ length-map c.args.corners.now (λ (x : Corner). x.point) in
    rw (c.as_slice.ensures.value, count) c.requires.ranges

pub check_side-requires-clause-ranges : goal.check_side-requires-clause-ranges
check_side-requires-clause-ranges c =
    let count : length c.as_slice-in-loop-k.result.now ≡ length c.args.corners.now = ap (λ (ps : List Point). length ps) c.as_slice-in-loop-k.ensures.value ∙ ap (λ (ps : List Point). length ps) c.loop-k.invariant.0 ∙ ap (λ (ps : List Point). length ps) c.in_ok-points.ensures ∙ length-map c.args.corners.now (λ (x : Corner). x.point) in
    let here = all_at (IsSide (length c.args.corners.now)) c.args.sides.now c.loop-k.k c.at.result.now c.requires.ranges c.at.ensures.item in
    rw count here

pub returns-in_err-check_belt-clause-broken : goal.returns-in_err-check_belt-clause-broken
returns-in_err-check_belt-clause-broken c =
    let g = c.args.game.now in
    let lp = whole_of c.args.program.now in
    let corners = c.args.corners.now in
    let sides = c.args.sides.now in
    let points : c.as_slice.result.now ≡ points_of corners = c.as_slice.ensures.value ∙ c.in_ok-points.ensures in
    let Belts : Item → Cause → Type 0 = λ at cause. (side : _) × (at ≡ item.Belt side) × (cause ≡ causes.Belt) × IsFaultOf (points_of corners) sides side in
    let Faults : Item → Cause → Type 0 = λ at cause. (notion : Notion) → All (IsTrueCorner g notion) corners
    → IsBlockFault g lp notion (Found corners sides) at cause in
    let here : IsFaultWith Belts c.in_err-check_belt.field-0.0 = rw points at c.in_err-check_belt.ensures.broken in
    error_named _ _ (IsFaultWith Faults) c.from_residual-in_err-check_belt.ensures.1
    (fault_for Belts Faults c.in_err-check_belt.field-0.0
    (λ at cause fails notion good. belt_fault g lp notion corners sides at cause fails good) here)

pub loop-k-preserved : goal.loop-k-preserved
loop-k-preserved c =
    let corners = c.args.corners.now in
    let points : c.as_slice-in-loop-k.result.now ≡ points_of corners =
    c.as_slice-in-loop-k.ensures.value ∙ c.loop-k.invariant.0 ∙ c.in_ok-points.ensures in (
      refl,
      refl,
      one_before (IsTrueSide c.args.game.now (whole_of c.args.program.now) corners) c.args.sides.now c.loop-k.k c.at.result.now
          c.loop-k.invariant.2 c.at.ensures.item (c.in-Ok.ensures.held corners points),
    )

pub returns-in-Err-clause-broken : goal.returns-in-Err-clause-broken
returns-in-Err-clause-broken c =
    let g = c.args.game.now in
    let lp = whole_of c.args.program.now in
    let corners = c.args.corners.now in
    let sides = c.args.sides.now in
    let side = c.at.result.now in
    let k = c.loop-k.k in
    let points : c.as_slice-in-loop-k.result.now ≡ points_of corners =
    c.as_slice-in-loop-k.ensures.value ∙ c.loop-k.invariant.0 ∙ c.in_ok-points.ensures in
    let front : c.as_slice.result.now ≡ points_of corners = c.as_slice.ensures.value ∙ c.in_ok-points.ensures in
    let belt : IsBelt (points_of corners) sides = rw front at c.in_ok-check_belt.ensures.held in
    let Breaks : Cause → Type 0 = λ cause. (all : List Corner) → c.as_slice-in-loop-k.result.now ≡ points_of all
    → IsFirstCause (SideRule g lp all side) (side_rules lp) cause in
    let Faults : Item → Cause → Type 0 = λ at cause. (notion : Notion) → All (IsTrueCorner g notion) corners
    → IsBlockFault g lp notion (Found corners sides) at cause in
    fault_at Faults (item.Side k) c.in-Err.end c.at_item.result c.at_item.ensures
    (break_for Breaks (Faults (item.Side k)) c.in-Err.end
    (λ cause fails notion good. side_fault g lp notion corners sides k side belt c.at.ensures.item c.loop-k.invariant.2 cause
    (fails corners points) good) c.in-Err.ensures.broken)

pub returns-clause-held : goal.returns-clause-held
returns-clause-held c =
    let corners = c.args.corners.now in
    let front : c.as_slice.result.now ≡ points_of corners = c.as_slice.ensures.value ∙ c.in_ok-points.ensures in
    let belt : IsBelt (points_of corners) c.args.sides.now = rw front at c.in_ok-check_belt.ensures.held in (
      belt,
      all_before (IsTrueSide c.args.game.now (whole_of c.args.program.now) corners) c.args.sides.now c.loop-k.k
          (omega (arith, c.loop-k-test.false, c.len-k-end.ensures.count)) c.loop-k.invariant.2,
    )
