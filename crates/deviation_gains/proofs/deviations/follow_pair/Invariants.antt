-- each node adds an amount at most, and what it pays
use Rattle.std.proofs.Common.{◌≡◌, ◌+◌, ◌*◌, ◌^◌, ◌≤◌, ◌+ℤ◌, length, unsigned_abs}
use Rattle.exact_algebra.specs.Sums.{sum_to}
use Rattle.deviation_gains.specs.Leaving.{PlanTest, TellsFollowed, paid_in_pair}
use Rattle.deviation_gains.proofs.deviations.follow_pair.Given as goal

abbrev pub invariant-loop-n : goal.invariant-loop-n
invariant-loop-n l =
    (unsigned_abs l.total ≤ unsigned_abs l.before + l.n * 2 ^ 90)
    × ((passes : PlanTest)
    → TellsFollowed l.pairs.seqs l.trigger.side l.trigger.set l.trigger.seq (length l.game.nodes) passes
    → l.total ≡ l.before +ℤ sum_to l.n (λ n. paid_in_pair l.trigger.side l.game passes l.pair n))
