use Rattle.std.proofs.Common.{◌≡◌, length, arith}
use Rattle.notion_solve.proofs.MadePoints.{made_points}
use Rattle.notion_solve.proofs.polygons.points_of.Goals as goal

pub returns : goal.returns
returns c =
    let all : c.loop-k.k ≡ length c.args.corners.now = omega (arith, c.loop-k-test.false, c.loop-k.auto.k-end, c.len-k-end.ensures.count) in
    made_points c.args.corners.now c.loop-k.points.items c.loop-k.k c.loop-k.invariant.0 all c.loop-k.invariant.1
