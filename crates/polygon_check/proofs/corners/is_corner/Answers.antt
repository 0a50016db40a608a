-- The ranges and the solution are the whole of a corner's conditions.
use Rattle.polygon_check.proofs.CornerParts.{corner_in_range, corner_pays, corner_whole}
use Rattle.polygon_check.proofs.corners.is_corner.Goals as goal

pub returns-then-is_in_range : goal.returns-then-is_in_range
returns-then-is_in_range c =
    let lp = c.args.lp.now in
    let corner = c.args.corner.now in (
      λ yes. corner_whole lp corner (c.is_in_range.ensures.0 c.if-is_in_range.true) (c.is_paid_solution.ensures.0 yes),
      λ whole. c.is_paid_solution.ensures.1 (corner_pays lp corner whole),
    )

pub returns-else-is_in_range : goal.returns-else-is_in_range
returns-else-is_in_range c =
    let lp = c.args.lp.now in
    let corner = c.args.corner.now in
    let broken = c.if-is_in_range.false in
    (λ yes. absurd (cc), λ whole. c.is_in_range.ensures.1 (corner_in_range lp corner whole))
