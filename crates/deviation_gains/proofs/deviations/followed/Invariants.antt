-- each pair adds its leaves' amounts at most, and what it pays
use Rattle.std.proofs.Common.{◌≡◌, ◌*◌, ◌^◌, ◌≤◌, All, length, take, unsigned_abs}
use Rattle.exact_algebra.specs.Sums.{sum_to}
use Rattle.equilibrium.specs.Distribution.{entries_of}
use Rattle.report_form.specs.Ranges.{IsPair}
use Rattle.deviation_gains.specs.Leaving.{PlanTest, TellsFollowed, paid_in_list}
use Rattle.deviation_gains.proofs.deviations.followed.Given as goal

abbrev pub invariant-loop-k : goal.invariant-loop-k
invariant-loop-k l =
    (unsigned_abs l.total ≤ l.k * (4096 * 2 ^ 90))
    × ((passes : PlanTest)
    → TellsFollowed l.pairs.seqs l.trigger.side l.trigger.set l.trigger.seq (length l.game.nodes) passes → All IsPair l.list
    → l.total ≡ sum_to (length l.game.nodes) (λ n. paid_in_list l.trigger.side l.game passes (entries_of (take l.k l.list)) n))
