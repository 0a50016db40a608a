-- None was found so far.
use Rattle.std.proofs.Common.{ℕ, ◌<◌}
use Rattle.triangle_test.specs.Triangle.{IsPartner}
use Rattle.triangle_test.proofs.triangles.has_partner.Given as goal

abbrev pub invariant-loop-two_a : goal.invariant-loop-two_a
invariant-loop-two_a l = (k : ℕ) → k < l.two_a → IsPartner l.pairs l.one_a.0 k l.two_b.0 → ⊥
