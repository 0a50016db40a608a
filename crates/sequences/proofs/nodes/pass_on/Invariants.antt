-- The kids gone over have what they are given, every other entry is as it was, and there are as many.
use Rattle.std.proofs.Common.{◌≡◌, ℕ, length, slice_index}
use Rattle.tree_recall.specs.LastMove.{IsHandedOn}
use Rattle.sequences.proofs.nodes.pass_on.Given as goal

abbrev pub invariant-loop-k : goal.invariant-loop-k
invariant-loop-k l =
    (length l.seqs.items ≡ length l.initial.seqs.items)
    × ((k : ℕ) → IsHandedOn l.kids (λ _. l.seq) l.k k (slice_index l.initial.seqs.items k) (slice_index l.seqs.items k))
