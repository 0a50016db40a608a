-- One more side, at a corner and small.
use Rattle.std.proofs.Common.{arith}
use Rattle.plane_hull.proofs.Standing.{one_more}
use Rattle.plain_programs.proofs.Places.{one_more_side}
use Rattle.acceptance.proofs.polygons.sides_of.Goals as goal

pub loop-a-preserved : goal.loop-a-preserved
loop-a-preserved g c = record {
  stand = one_more c.args.corners c.loop-a.sides c.push.new.self _ c.in_ok-push.ensures.ok c.loop-a.invariant.stand (omega arith);
  small = one_more_side c.loop-a.sides c.push.new.self _ c.in_ok-push.ensures.ok c.loop-a.invariant.small c.direction.ensures;
}
