-- A corner more is true, or is the first with a fault.
use Rattle.std.proofs.Common.{List, arith}
use Rattle.lp_form.specs.Program.{LpView}
use Rattle.plane_hull.specs.declared.sides.SideRow.{SideRow}
use Rattle.report_form.specs.declared.reports.Block.TheVariants.{Found}
use Rattle.cert_check.specs.CornerRules.{CornerRule, corner_rules}
use Rattle.cert_check.specs.Rules.{IsFirstBroken}
use Rattle.cert_check.specs.Truth.{IsBlockFault, IsTrueCorner, at_corner}
use Rattle.report_form.specs.declared.verdicts.Cause.{Cause}
use Rattle.report_form.specs.declared.verdicts.Item.{Item}
use Rattle.report_form.specs.declared.verdicts.Item.TheVariants as item
use Rattle.cert_check.proofs.CheckedBlocks.{all_before, one_before}
use Rattle.cert_check.proofs.RuleEnds.{break_for, fault_at}
use Rattle.cert_check.proofs.blocks.check_corners.Goals as goal

pub loop-k-init : goal.loop-k-init
loop-k-init c = λ j corner low here. absurd (omega arith)

pub loop-k-preserved : goal.loop-k-preserved
loop-k-preserved c =
    one_before (IsTrueCorner c.args.game.now c.args.notion) c.args.corners.now c.loop-k.k c.at.result.now c.loop-k.invariant c.at.ensures.item
    c.in_default.ensures.held

pub returns-clause-held : goal.returns-clause-held
returns-clause-held c =
    all_before (IsTrueCorner c.args.game.now c.args.notion) c.args.corners.now c.loop-k.k
    (omega (arith, c.loop-k-test.false, c.len-k-end.ensures.count)) c.loop-k.invariant

pub returns-in-Err-clause-broken : goal.returns-in-Err-clause-broken
returns-in-Err-clause-broken c =
    let g = c.args.game.now in
    let corners = c.args.corners.now in
    let corner = c.at.result.now in
    let k = c.loop-k.k in
    let Breaks : Cause → Type 0 = IsFirstBroken (CornerRule g c.args.notion corner) corner_rules in
    let Faults : Item → Cause → Type 0 = λ at cause. (lp : LpView) (sides : List SideRow)
    → IsBlockFault g lp c.args.notion (Found corners sides) at cause in
    fault_at Faults (item.Corner k) c.in-Err.end c.at_item.result c.at_item.ensures
    (break_for Breaks (Faults (item.Corner k)) c.in-Err.end
    (λ cause fails lp sides. at_corner corners sides k corner cause c.at.ensures.item c.loop-k.invariant fails) c.in-Err.ensures.broken)
