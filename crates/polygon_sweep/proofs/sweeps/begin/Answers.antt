-- One corner and one side were pushed.
use Rattle.std.proofs.Common.{refl}
use Rattle.polygon_sweep.proofs.sweeps.begin.Goals as goal

pub returns-clause-alone : goal.returns-clause-alone
returns-clause-alone g c = record {
  one = rw (c.in_ok-push.ensures.ok, c.new-corners.ensures.empty) refl;
  side = c.in_ok-side_at.field-0;
  alone = rw (c.in_ok-push-2.ensures.ok, c.new-sides.ensures.empty) refl;
  there = (c.in_ok-side_at.ensures.direction, c.in_ok-side_at.ensures.number);
}
