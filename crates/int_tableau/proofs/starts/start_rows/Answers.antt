-- One more row is pushed.
use Rattle.std.proofs.Common.{[]}
use Rattle.int_tableau.specs.StartLists.{IsStartRow}
use Rattle.int_tableau.proofs.Pushing.{push_length, push_step}
use Rattle.int_tableau.proofs.starts.start_rows.Goals as goal

pub loop-row-preserved : goal.loop-row-preserved
loop-row-preserved c =
    record {
      all = push_length _ _ _ _ c.in_ok-push.ensures.items c.loop-row.invariant.all;
      each = push_step (λ k v. IsStartRow c.args.lp.now k v) [] c.loop-row.rows.items c.push.new.self.items c.loop-row.row _ c.in_ok-push.ensures.items c.loop-row.invariant.all c.loop-row.invariant.each c.in_ok-start_row.ensures;
    }
