-- Two points differ where one of their four numbers does.
use Rattle.plane_hull.proofs.Reading.{differ_told, points_told}
use Rattle.plane_hull.proofs.belts.points_differ.Goals as goal

pub returns-else-from-to : goal.returns-else-from-to
returns-else-from-to c =
    differ_told c.args.points.now c.args.from.now c.args.to.now _ _ c.ne.result c.requires.from_at c.requires.to_at
    c.index-points-from.is c.index-points-to.is c.if-from-to.false (points_told _ _ c.ne.result c.ne.ensures)
