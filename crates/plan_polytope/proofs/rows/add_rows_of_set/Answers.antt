-- One sequence more is gone over, and its row listed and counted if it is wanted.
use Rattle.std.proofs.Common.{length, arith}
use Rattle.incentive_rows.specs.Size.{HasRowBeside}
use Rattle.plan_polytope.proofs.Counting.{added_counted, longer_more}
use Rattle.plan_polytope.proofs.Ordering.{added_few, list_more, row_at}
use Rattle.plan_polytope.proofs.rows.add_rows_of_set.Goals as goal

pub loop-beside-preserved : goal.loop-beside-preserved
loop-beside-preserved c =
    let p = c.args.pairs.now in
    let row = row_at c.args.at.0 c.args.at.1 c.loop-beside.beside in
    let end = rw (c.other_side.ensures, c.seqs.ensures) at c.count-beside-end.ensures.count in (
      omega (arith, c.loop-beside.invariant.0, added_few c.args.pairs.now row c.loop-beside.rows.items c.add_row.new.rows.items c.in_ok-add_row.ensures),
      list_more c.args.game.now c.args.pairs.now c.args.at.0 c.args.at.1 c.loop-beside.beside c.loop-beside.rows.items c.add_row.new.rows.items c.requires.known (omega (arith, end)) c.in_ok-add_row.ensures c.loop-beside.invariant.1,
      longer_more (HasRowBeside p c.args.at.0 c.args.at.1.0) c.loop-beside.beside (length c.args.rows.now.items) (length c.loop-beside.rows.items) (length c.add_row.new.rows.items) c.loop-beside.invariant.2
          (added_counted p c.args.at.0 c.args.at.1 c.loop-beside.beside c.loop-beside.rows.items c.add_row.new.rows.items c.in_ok-add_row.ensures),
    )
