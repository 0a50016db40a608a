-- One more small corner.
use Rattle.plain_programs.proofs.Places.{one_more_point}
use Rattle.acceptance.proofs.polygons.points_of.Goals as goal

pub loop-one-preserved : goal.loop-one-preserved
loop-one-preserved g c =
    one_more_point c.loop-one.points.items c.push.new.self.items _ c.in_ok-push.ensures.items c.loop-one.invariant
    (record {
      one_num = c.fraction.ensures.num;
      one_den = c.fraction.ensures.den;
      two_num = c.fraction-in-loop-one.ensures.num;
      two_den = c.fraction-in-loop-one.ensures.den;
    })
