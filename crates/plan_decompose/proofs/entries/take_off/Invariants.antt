-- The values of the pairs gone over have lost the weight of the two plans, and the others are as they were.
use Rattle.std.proofs.Common.{◌≡◌, ◌<◌, ◌≤◌, ℕ, pos, Some, slice_get, slice_index_or}
use Rattle.plan_decompose.specs.Entry.{LosesWeight}
use Rattle.plan_decompose.proofs.entries.take_off.Given as goal

abbrev pub invariant-loop-k : goal.invariant-loop-k
invariant-loop-k l = record {
  done : (k : ℕ) (pair : ℕ × ℕ) → k < l.k → slice_get l.pairs.pairs k ≡ Some pair
      → LosesWeight l.pairs.seqs l.one l.two pair l.weight (slice_index_or l.initial.values k (pos 0)) (slice_index_or l.values k (pos 0));
  left : (k : ℕ) → l.k ≤ k → slice_index_or l.values k (pos 0) ≡ slice_index_or l.initial.values k (pos 0);
}
