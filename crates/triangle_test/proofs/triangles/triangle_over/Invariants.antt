-- None was found so far.
use Rattle.std.proofs.Common.{ℕ, ◌<◌}
use Rattle.triangle_test.specs.Triangle.{IsLast}
use Rattle.triangle_test.proofs.triangles.triangle_over.Given as goal

abbrev pub invariant-loop-two_b : goal.invariant-loop-two_b
invariant-loop-two_b l = (k : ℕ) → k < l.two_b → IsLast l.pairs l.one_a.0 l.one_b.0 l.two_a.0 k → ⊥
