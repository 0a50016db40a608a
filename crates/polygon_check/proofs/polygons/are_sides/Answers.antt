-- A side more is a side at the corners.
use Rattle.plane_hull.specs.declared.sides.SideRow.{SideRow}
use Rattle.polygon_sweep.specs.Swept.{IsSideAmong}
use Rattle.polygon_check.proofs.Elements.{element_too}
use Rattle.polygon_check.proofs.polygons.are_sides.Goals as goal

pub loop-k-preserved : goal.loop-k-preserved
loop-k-preserved c =
    let swept = c.args.swept.now in
    element_too (λ (side : SideRow). IsSideAmong c.args.lp.now swept.corners side) swept.sides c.loop-k.k c.at.result.now c.loop-k.invariant c.at.ensures.item
    (c.in_ok-is_side.ensures.0 c.if-not-branch.false)
