-- One row more, or none.
use Rattle.std.proofs.Common.{refl, arith}
use Rattle.incentive_rows.specs.Size.{HasRowBeside}
use Rattle.incentive_rows.proofs.Sums.{sum_more}
use Rattle.incentive_rows.proofs.sizes.rows_of_set.Goals as goal

pub loop-beside-preserved : goal.loop-beside-preserved
loop-beside-preserved c = (
  sum_more (HasRowBeside c.args.pairs.now c.args.side c.args.set.0) c.loop-beside.beside c.loop-beside.rows c.row_beside-rows.result _ c.loop-beside.invariant.0 c.row_beside-rows.ensures.count refl,
  omega (arith, c.loop-beside.invariant.1, c.row_beside-rows.ensures.few),
)
