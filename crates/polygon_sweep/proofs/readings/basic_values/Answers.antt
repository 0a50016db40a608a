-- Each row puts its value in.
use Rattle.std.proofs.Common.{arith}
use Rattle.polygon_sweep.proofs.BasicValues.{more_put, none_put}
use Rattle.polygon_sweep.proofs.readings.basic_values.Goals as goal

pub loop-row-init : goal.loop-row-init
loop-row-init g c = none_put _ _ _ _ (c.in_ok-values.ensures.items_if_clones_equal (λ y h. h))

pub loop-row-preserved : goal.loop-row-preserved
loop-row-preserved g c = more_put _ _ _ _ _ _ c.requires.once (omega (arith, c.loop-row-test.true)) c.loop-row.invariant c.put_value.ensures.count c.put_value.ensures.narrow c.put_value.ensures.put
