-- The numbers passed are 0 or more.
use Rattle.std.proofs.Common.{ℕ, ◌<◌, get_or, pos, ◌≤ℤ◌}
use Rattle.polygon_check.proofs.numbers.none_negative.Given as goal

abbrev pub invariant-loop-k : goal.invariant-loop-k
invariant-loop-k l = (i : ℕ) → i < l.k → pos 0 ≤ℤ get_or l.list i (pos 0)
