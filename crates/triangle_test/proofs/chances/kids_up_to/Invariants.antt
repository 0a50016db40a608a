-- The kids so far have at most this number.
use Rattle.std.proofs.Common.{◌≡◌, ℕ, ◌<◌, ◌≤◌, Some, slice_get}
use Rattle.triangle_test.proofs.chances.kids_up_to.Given as goal

abbrev pub invariant-loop-k : goal.invariant-loop-k
invariant-loop-k l = (j kid : ℕ) → slice_get l.kids j ≡ Some kid → j < l.k → kid ≤ l.n
