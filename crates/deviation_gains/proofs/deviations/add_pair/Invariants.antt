-- each node adds an amount at most, and what it pays
use Rattle.std.proofs.Common.{◌≡◌, ◌+◌, ◌*◌, ◌^◌, ◌≤◌, length}
use Rattle.sequences.specs.Number.{side_of}
use Rattle.deviation_gains.specs.Leaving.{GrowBy, PlanTest, TellsLeft, paid_behind, paid_in_pair}
use Rattle.deviation_gains.specs.Reach.{reach}
use Rattle.deviation_gains.proofs.deviations.add_pair.Given as goal

abbrev pub invariant-loop-n : goal.invariant-loop-n
invariant-loop-n l =
    (length l.left.items ≡ length l.initial.left.items) × (reach l.left.items ≤ reach l.initial.left.items + l.n * 2 ^ 90)
    × ((passes : PlanTest) → TellsLeft l.pairs.seqs l.trigger.side l.trigger.seq (length l.game.nodes) passes
    → GrowBy (paid_behind (side_of l.trigger.side l.pairs.seqs).nodes
    (paid_in_pair l.trigger.side l.game passes l.pair) l.n) l.initial.left.items l.left.items)
