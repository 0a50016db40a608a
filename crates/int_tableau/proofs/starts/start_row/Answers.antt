-- One more entry is pushed.
use Rattle.std.proofs.Common.{◌≡◌, pos, arith}
use Rattle.corr_num.specs.Narrow.{Narrow}
use Rattle.int_tableau.proofs.ExactEntries.{word_of}
use Rattle.int_tableau.specs.Start.{start_entry}
use Rattle.int_tableau.proofs.Pushing.{push_length, push_step}
use Rattle.int_tableau.proofs.starts.start_row.Goals as goal

pub loop-col-preserved : goal.loop-col-preserved
loop-col-preserved c =
    let v = start_entry c.args.lp.now c.args.row c.loop-col.col in
    let small : Narrow v = c.requires.narrow c.loop-col.col (omega (arith, c.cols.ensures.count, c.rows.ensures.count)) in
    let back = word_of c.start_entry.result v c.start_entry.ensures small in
    record {
      width = push_length _ _ _ _ c.in_ok-push.ensures.items c.loop-col.invariant.width;
      entries_are = push_step (λ k x. x ≡ start_entry c.args.lp.now c.args.row k) (pos 0) c.loop-col.entries.items c.push.new.self.items c.loop-col.col _ c.in_ok-push.ensures.items c.loop-col.invariant.width c.loop-col.invariant.entries_are back;
    }
