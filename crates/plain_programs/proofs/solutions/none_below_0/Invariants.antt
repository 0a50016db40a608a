-- No number so far is below 0.
use Rattle.std.proofs.Common.{ℕ, ◌<◌, pos, ◌≤ℤ◌, slice_index_or}
use Rattle.plain_programs.proofs.solutions.none_below_0.Given as goal

abbrev pub invariant-loop-k : goal.invariant-loop-k
invariant-loop-k l = (k : ℕ) → k < l.k → pos 0 ≤ℤ slice_index_or l.numbers k (pos 0)
