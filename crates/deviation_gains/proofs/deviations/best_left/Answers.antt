-- The sums of the leaves, from the last set back.
use Rattle.std.proofs.Common.{arith}
use Rattle.sequences.specs.Number.{side_of}
use Rattle.equilibrium.specs.Distribution.{entries_of}
use Rattle.corr_num.proofs.PrintedTerms.{returned}
use Rattle.std.proofs.Common.{length}
use Rattle.deviation_gains.specs.Leaving.{paid_behind, paid_in_list}
use Rattle.deviation_gains.proofs.LeftStart.{start_gone, start_left}
use Rattle.deviation_gains.proofs.deviations.best_left.Goals as goal

pub returns : goal.returns
returns c =
    record {
      worth = λ passes tells ranges row.
          let v = side_of c.args.trigger.now.side c.args.pairs.now.seqs in
          let paid = paid_behind v.nodes (paid_in_list c.args.trigger.now.side c.args.game.now passes (entries_of c.args.list.now))
          (length c.args.game.now.nodes) in
          let left = c.in_ok-left.left.items in
          let sums = c.in_ok-left.ensures in
          let worth = rw c.seqs.ensures at c.best_from.ensures.worth in
          rw (returned c.best_from.result (omega (arith, c.best_from.ensures.bound)))
          (worth paid row (start_left v sums.rules row paid left sums.count c.args.trigger.now.set c.requires.known.1)
          (start_gone v sums.rules row paid left sums.count (sums.sums passes tells ranges)));
    }
