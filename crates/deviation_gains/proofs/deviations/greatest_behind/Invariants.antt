-- the best so far is one of the numbers behind, and none gone over is greater
use Rattle.std.proofs.Common.{ℕ, ◌≡◌, ◌+◌, ◌<◌, ◌≤◌, ◌≤ℤ◌, pos, take, unsigned_abs}
use Rattle.std.specs.Prelude.{slice_index_or}
use Rattle.deviation_gains.specs.Reach.{reach}
use Rattle.deviation_gains.proofs.deviations.greatest_behind.Given as goal

abbrev pub invariant-loop-k : goal.invariant-loop-k
invariant-loop-k l =
    (unsigned_abs l.best + reach (take l.first l.left) ≤ reach l.left)
    × ((k : ℕ) → l.first ≤ k → k < l.k → slice_index_or l.left k (pos 0) ≤ℤ l.best)
    × ((k : ℕ) × (l.first ≤ k) × (k < l.k) × (l.best ≡ slice_index_or l.left k (pos 0)))
