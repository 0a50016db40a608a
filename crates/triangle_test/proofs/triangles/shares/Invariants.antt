-- None was found so far.
use Rattle.std.proofs.Common.{◌≡◌, ℕ, ◌<◌}
use Rattle.triangle_test.specs.declared.triangles.Quad.{Quad}
use Rattle.triangle_test.specs.Triangle.{IsTriangle}
use Rattle.triangle_test.proofs.triangles.shares.Given as goal

abbrev pub invariant-loop-two_b : goal.invariant-loop-two_b
invariant-loop-two_b l = (k : ℕ) → k < l.two_b → (q : Quad) → q.one_a.0 ≡ l.one_a.0 → q.one_b.0 ≡ l.one_b.0 → q.two_b.0 ≡ k → IsTriangle l.pairs q → ⊥
