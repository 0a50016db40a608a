-- The whole matrix of rows and cost rows over one start: the start, each pivot's exact divisions, and one basis, from what is
-- shown of the rows and of each cost row.
use Rattle.std.proofs.Common.{◌≡◌, ◌≢◌, ℕ, ◌<◌, ◌≤◌, ℤ, pos, ◌*ℤ◌, refl, ⊎_elim, arith}
use Rattle.std.proofs.lemmas.Bool.{cases_lt}
use Rattle.exact_algebra.proofs.Families.{put}
use Rattle.exact_linear.proofs.CostRows.{cost_exact, cost_keeps, priced}
use Rattle.exact_linear.proofs.Determinant.{unit}
use Rattle.exact_linear.proofs.Exactness.{quotient, numerator_exact}
use Rattle.exact_linear.proofs.OneBasis.{one_denominator, one_row, one_cost_row}
use Rattle.exact_linear.proofs.PivotKeeps.{pivot_keeps}
use Rattle.exact_linear.proofs.PivotMade.{rows_pivot}
use Rattle.exact_linear.proofs.Start.{start_is, start_costs}
use Rattle.exact_linear.specs.Basis.{IsSameBasis}
use Rattle.exact_linear.specs.Pivot.{pivot_row, numerator, IsPivot}
use Rattle.exact_linear.specs.Tableau.{IsTableauOf, column}

pub whole_start : (m h n : ℕ) (start : ℕ → ℕ → ℤ) (basis : ℕ → ℕ) → ((k : ℕ) → k < m → basis k < n) → ((k c : ℕ) → k < m → c < m → start c (basis k) ≡ unit k c) → ((i k : ℕ) → m ≤ i → i < h → k < m → start i (basis k) ≡ pos 0) →
    IsTableauOf m h n start basis (pos 1) start
whole_start m h n start basis within artificial free = record {
  program = start_is m n (column start) basis start within artificial (λ i j p q. refl);
  costs = λ i low high. start_costs m n (start i) basis start (λ k p. free i k low high p);
}

-- The pivot that the rows of the program have, whatever becomes of the cost rows.
pub rows_alone : {h n r s : ℕ} {den : ℤ} {matrix after : ℕ → ℕ → ℤ} (m : ℕ) → m ≤ h → IsPivot h n r s den matrix after → IsPivot m n r s den matrix after
rows_alone m inside pivot = record { keeps = pivot.keeps; divides = λ i j l d q. pivot.divides i j (omega arith) d q }

module _ {m h n : ℕ} {start : ℕ → ℕ → ℤ} {basis : ℕ → ℕ} {den : ℤ} {matrix : ℕ → ℕ → ℤ} (t : IsTableauOf m h n start basis den matrix) (inside : m ≤ h) (r s : ℕ) (in_rows : r < m) (in_columns : s < n) where
  -- The old denominator divides what a pivot makes of each entry of another row.
  pub pivot_exact : (i j : ℕ) → i < h → i ≢ r → j < n → (q : ℤ) × (q *ℤ den ≡ numerator matrix r s i j)
  pivot_exact i j below d l = ⊎_elim
      (λ (q : i < m). (quotient t.program r s in_rows in_columns i j, numerator_exact t.program r s in_rows in_columns i j q d l))
      (λ (q : m ≤ i). (priced (t.costs i q below) r s in_rows in_columns (rows_pivot t.program r s in_rows in_columns) j, cost_exact (t.costs i q below) r s in_rows in_columns (rows_pivot t.program r s in_rows in_columns) j l))
      (cases_lt i m)

  -- A pivot leaves the tableau of the basis with column s in row r.
  pub whole_keeps : (after : ℕ → ℕ → ℤ) → matrix r s ≢ pos 0 → IsPivot h n r s den matrix after → IsTableauOf m h n start (put basis r s) (pivot_row matrix r s s) after
  whole_keeps after other pivot = record {
    program = pivot_keeps t.program r s in_rows in_columns other (rows_alone m inside pivot);
    costs = λ i low high. cost_keeps (t.costs i low high) r s in_rows in_columns (rows_alone m inside pivot) (after i) (λ j l. pivot.divides i j high (omega arith) l) t.program.positive;
  }

-- Two tableaus of one start and one basis are equal up to the order of rows.
module _ {m h n : ℕ} {start : ℕ → ℕ → ℤ} {basis basis' : ℕ → ℕ} {den den' : ℤ} {matrix matrix' : ℕ → ℕ → ℤ}
    (t : IsTableauOf m h n start basis den matrix) (u : IsTableauOf m h n start basis' den' matrix') (same : IsSameBasis m basis basis') where
  pub same_denominator : den' ≡ den
  same_denominator = one_denominator t.program u.program same

  pub same_row : (k l j : ℕ) → k < m → l < m → j < n → basis' k ≡ basis l → matrix' k j ≡ matrix l j
  same_row = one_row t.program u.program same

  pub same_cost_row : (i j : ℕ) → m ≤ i → i < h → j < n → matrix' i j ≡ matrix i j
  same_cost_row i j low high l = one_cost_row t.program u.program same (t.costs i low high) (u.costs i low high) j l
