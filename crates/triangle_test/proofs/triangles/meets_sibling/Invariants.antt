-- None was found so far.
use Rattle.std.proofs.Common.{ℕ, ◌<◌}
use Rattle.triangle_test.specs.Triangle.{IsMet}
use Rattle.triangle_test.proofs.triangles.meets_sibling.Given as goal

abbrev pub invariant-loop-one_b : goal.invariant-loop-one_b
invariant-loop-one_b l = (k : ℕ) → k < l.one_b → IsMet l.pairs l.one_a.0 k l.two_b.0 → ⊥
