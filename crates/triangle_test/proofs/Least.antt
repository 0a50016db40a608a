-- A least triangle of those with some of its sets is a least one of those with fewer, where no earlier set begins one.
use Rattle.std.proofs.Common.{ℕ, ◌<◌, subst, sym, arith}
use Rattle.connected_pairs.specs.Connected.{PairsView}
use Rattle.triangle_test.specs.declared.triangles.Quad.{Quad}
use Rattle.triangle_test.specs.Triangle.{IsLeastFrom, IsLeastOver, IsLeastTriangle, IsLeastWith, NoneFrom, NoneOver, NoneWith}

module _ (p : PairsView) (q : Quad) where
  pub least_with : (one_a one_b two_a : ℕ) → IsLeastOver p one_a one_b two_a q → ((k : ℕ) → k < two_a → NoneOver p one_a one_b k) → IsLeastWith p one_a one_b q
  least_with one_a one_b two_a least before = record {
    least = subst (λ (x : ℕ). IsLeastOver p one_a one_b x q) (sym least.third) least;
    none_before = λ k lt. before k (omega (arith, lt, least.third));
  }

  pub least_from : (one_a one_b : ℕ) → IsLeastWith p one_a one_b q → ((k : ℕ) → k < one_b → NoneWith p one_a k) → IsLeastFrom p one_a q
  least_from one_a one_b least before = record {
    least = subst (λ (x : ℕ). IsLeastWith p one_a x q) (sym least.least.second) least;
    none_before = λ k lt. before k (omega (arith, lt, least.least.second));
  }

  pub least_triangle : (one_a : ℕ) → IsLeastFrom p one_a q → ((k : ℕ) → k < one_a → NoneFrom p k) → IsLeastTriangle p q
  least_triangle one_a least before = record {
    least = subst (λ (x : ℕ). IsLeastFrom p x q) (sym least.least.least.first) least;
    none_before = λ k lt. before k (omega (arith, lt, least.least.least.first));
  }
