-- Weak duality of linear programs in whole numbers, as a sample of sums: the sum of x j times the reduced column j is not
-- negative, and a double sum taken the other way turns it into the difference of the two values.
use Rattle.std.proofs.Common.{◌≡◌, ℕ, ◌<◌, ℤ, pos, ◌-ℤ◌, ◌*ℤ◌, ◌≤ℤ◌, ap, ◌∙◌, ap₂, arith}
use Rattle.exact_algebra.proofs.Matrices.{row_matrix_column}
use Rattle.exact_algebra.proofs.Order.{product_not_negative}
use Rattle.exact_algebra.proofs.RingLaws.{*ℤ_comm, *ℤ_left_comm}
use Rattle.exact_algebra.proofs.RingTactic.{ring_laws, linear}
use Rattle.exact_algebra.proofs.SumOrder.{sum_to_not_negative}
use Rattle.exact_algebra.proofs.Sums.{sum_to-same, sum_to-difference, sum_to-scale}
use Rattle.exact_algebra.specs.Sums.{sum_to}

module _ (m n : ℕ) (rows : ℕ → ℕ → ℤ) (b c x y : ℕ → ℤ) (d den : ℤ) where
  slack_sum : sum_to n (λ j. x j *ℤ (sum_to m (λ i. y i *ℤ rows i j) -ℤ den *ℤ c j)) ≡ sum_to m (λ i. y i *ℤ sum_to n (λ j. rows i j *ℤ x j)) -ℤ den *ℤ sum_to n (λ j. c j *ℤ x j)
  slack_sum =
      sum_to-same n _ _ (λ j h. reduced (x j) (sum_to m (λ i. y i *ℤ rows i j)) (c j))
      ∙ (sum_to-difference n (λ j. x j *ℤ sum_to m (λ i. y i *ℤ rows i j)) (λ j. den *ℤ (c j *ℤ x j))
      ∙ ap₂ (λ u v. u -ℤ v) (sum_to-same n _ _ (λ j h. *ℤ_comm (x j) (sum_to m (λ i. y i *ℤ rows i j))) ∙ row_matrix_column m n y rows x) (sum_to-scale n den (λ j. c j *ℤ x j)))
    where
      reduced : (u v w : ℤ) → u *ℤ (v -ℤ den *ℤ w) ≡ u *ℤ v -ℤ den *ℤ (w *ℤ u)
      reduced u v w = simp ring_laws (omega (arith, linear))

  pub weak_duality :
      ((j : ℕ) → j < n → pos 0 ≤ℤ x j) →
      ((i : ℕ) → i < m → sum_to n (λ j. rows i j *ℤ x j) ≡ d *ℤ b i) →
      ((j : ℕ) → j < n → pos 0 ≤ℤ (sum_to m (λ i. y i *ℤ rows i j) -ℤ den *ℤ c j)) →
      (den *ℤ sum_to n (λ j. c j *ℤ x j)) ≤ℤ (d *ℤ sum_to m (λ i. y i *ℤ b i))
  weak_duality feasible solves prices =
      let slack = sum_to_not_negative n _ (λ j h. product_not_negative (feasible j h) (prices j h)) in
      let right_sides = sum_to-same m _ _ (λ i h. ap (λ s. y i *ℤ s) (solves i h) ∙ *ℤ_left_comm (y i) d (b i)) ∙ sum_to-scale m d (λ i. y i *ℤ b i) in
      omega (arith, linear, slack_sum, right_sides)
