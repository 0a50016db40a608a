-- One set more is gone over, and its rows are counted.
use Rattle.std.proofs.Common.{length, arith}
use Rattle.incentive_rows.specs.Size.{HasRowsOfSet}
use Rattle.plan_polytope.proofs.Counting.{longer_more}
use Rattle.plan_polytope.proofs.rows.add_rows.Goals as goal

pub loop-set-preserved : goal.loop-set-preserved
loop-set-preserved c = (
  omega (arith, c.loop-set.invariant.0, c.in_ok-add_rows_of_set.ensures.few),
  c.in_ok-add_rows_of_set.ensures.listed,
  longer_more (HasRowsOfSet c.args.pairs.now c.args.side) c.loop-set.set (length c.args.rows.now.items) (length c.loop-set.rows.items) (length c.add_rows_of_set.new.rows.items) c.loop-set.invariant.2 c.in_ok-add_rows_of_set.ensures.count,
)
