-- None was found so far.
use Rattle.std.proofs.Common.{ℕ, ◌<◌}
use Rattle.triangle_test.specs.Triangle.{NoneOver}
use Rattle.triangle_test.proofs.triangles.triangle_with.Given as goal

abbrev pub invariant-loop-two_a : goal.invariant-loop-two_a
invariant-loop-two_a l = (k : ℕ) → k < l.two_a → NoneOver l.pairs l.one_a.0 l.one_b.0 k
