-- each pair adds its leaves' amounts at most, and what it pays
use Rattle.std.proofs.Common.{◌≡◌, ◌*◌, ◌^◌, ◌<◌, ◌≤◌, ℕ, All, length, take, pos}
use Rattle.std.specs.Prelude.{slice_index_or}
use Rattle.sequences.specs.Number.{side_of}
use Rattle.equilibrium.specs.Distribution.{entries_of}
use Rattle.report_form.specs.Ranges.{IsPair}
use Rattle.deviation_gains.specs.Leaving.{PlanTest, TellsLeft, paid_behind, paid_in_list}
use Rattle.deviation_gains.specs.Reach.{reach}
use Rattle.deviation_gains.proofs.deviations.left_sums.Given as goal

abbrev pub invariant-loop-k : goal.invariant-loop-k
invariant-loop-k l =
    (length l.left.items ≡ length l.initial.left.items) × (reach l.left.items ≤ l.k * (4096 * 2 ^ 90))
    × ((passes : PlanTest) → TellsLeft l.pairs.seqs l.trigger.side l.trigger.seq (length l.game.nodes) passes → All IsPair l.list
    → (q : ℕ) → q < length l.initial.left.items
    → slice_index_or l.left.items q (pos 0)
    ≡ paid_behind (side_of l.trigger.side l.pairs.seqs).nodes
    (paid_in_list l.trigger.side l.game passes (entries_of (take l.k l.list))) (length l.game.nodes) q)
