use Rattle.std.proofs.Common.{ℕ, ◌<◌, ◌≤◌, ◌^◌, pos, slice_index_or, unsigned_abs}
use Rattle.plain_programs.proofs.certificates.are_moderate.Given as goal

abbrev pub invariant-loop-k : goal.invariant-loop-k
invariant-loop-k l = (k : ℕ) → k < l.k → unsigned_abs (slice_index_or l.multipliers k (pos 0)) ≤ 2 ^ 20
