-- The rows that a pivot makes, as a matrix: the pivot row, and in another row the quotients that exactness gives.
use Rattle.std.proofs.Common.{◌≡◌, ◌≢◌, ◌⊎◌, ℕ, ◌<◌, ℤ, ◌*ℤ◌, refl, inl, inr}
use Rattle.std.proofs.lemmas.Bool.{cases_eq}
use Rattle.exact_linear.proofs.Exactness.{quotient, numerator_exact}
use Rattle.exact_linear.specs.Pivot.{pivot_row, numerator, IsPivot}
use Rattle.exact_linear.specs.Tableau.{IsTableau}

module _ {m n : ℕ} {columns : ℕ → ℕ → ℤ} {basis : ℕ → ℕ} {den : ℤ} {matrix : ℕ → ℕ → ℤ} (t : IsTableau m n columns basis den matrix) (r s : ℕ) (in_rows : r < m) (in_columns : s < n) where
  abbrev made : (i j : ℕ) → (i ≡ r) ⊎ (i ≢ r) → ℤ
  made i j (inl e) = pivot_row matrix r s j
  made i j (inr d) = quotient t r s in_rows in_columns i j

  pub pivoted_rows : ℕ → ℕ → ℤ
  pivoted_rows i j = made i j (cases_eq i r)

  pub rows_pivot : IsPivot m n r s den matrix pivoted_rows
  unfolding pivoted_rows
  rows_pivot = record { keeps = λ j l. at_r j (cases_eq r r); divides = λ i j q d l. elsewhere i j q d l (cases_eq i r) }
    where
      at_r : (j : ℕ) (c : (r ≡ r) ⊎ (r ≢ r)) → made r j c ≡ pivot_row matrix r s j
      at_r j (inl e) = refl
      at_r j (inr d) = absurd (d refl)

      elsewhere : (i j : ℕ) → i < m → i ≢ r → j < n → (c : (i ≡ r) ⊎ (i ≢ r)) → made i j c *ℤ den ≡ numerator matrix r s i j
      elsewhere i j q d l (inl e) = absurd (d e)
      elsewhere i j q d l (inr f) = numerator_exact t r s in_rows in_columns i j q d l
