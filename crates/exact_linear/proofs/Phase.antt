-- The first phase. A row of reduced costs is also that of costs to which a combination of the start's rows is added, since the
-- basic columns span each column. So with costs of minus the column sums, the row's right side is minus the sum of the right sides
-- of the rows whose basic column is artificial.
use Rattle.std.proofs.Common.{◌≡◌, ℕ, ◌<◌, ℤ, pos, ◌+ℤ◌, ◌*ℤ◌, ◌≤ℤ◌, neg_ℤ, sym, ap, ◌∙◌, arith}
use Rattle.exact_algebra.proofs.Matrices.{row_matrix_column}
use Rattle.exact_algebra.proofs.Order.{product_not_negative}
use Rattle.exact_algebra.proofs.RingLaws.{*ℤ-+ℤ, +ℤ-*ℤ, *ℤ_left_comm, *ℤ-zero, one-*ℤ}
use Rattle.exact_algebra.proofs.RingTactic.{linear}
use Rattle.exact_algebra.proofs.SumOrder.{each_nothing}
use Rattle.exact_algebra.proofs.Sums.{sum_to-same, sum_to-add, sum_to-scale}
use Rattle.exact_algebra.specs.Sums.{sum_to}
use Rattle.exact_linear.specs.Simplex.{IsFeasible}
use Rattle.exact_linear.specs.Tableau.{IsTableau, IsCostRow}

module _ {m n : ℕ} {columns : ℕ → ℕ → ℤ} {costs row : ℕ → ℤ} {basis : ℕ → ℕ} {den : ℤ} {matrix : ℕ → ℕ → ℤ} (t : IsTableau m n columns basis den matrix) (z : IsCostRow m n costs basis den matrix row) where
  -- The combination y of the coordinates of the basic columns, over the tableau, is that of each column.
  combined : (y : ℕ → ℤ) (j : ℕ) → j < n → sum_to m (λ k. sum_to m (λ c. y c *ℤ columns (basis k) c) *ℤ matrix k j) ≡ den *ℤ sum_to m (λ c. y c *ℤ columns j c)
  combined y j l =
      row_matrix_column m m y (λ c k. columns (basis k) c) (λ k. matrix k j)
      ∙ (sum_to-same m (λ c. y c *ℤ sum_to m (λ k. columns (basis k) c *ℤ matrix k j)) (λ c. den *ℤ (y c *ℤ columns j c)) (λ c h. ap (λ e. y c *ℤ e) (t.spans j c l h) ∙ *ℤ_left_comm (y c) den (columns j c))
      ∙ sum_to-scale m den (λ c. y c *ℤ columns j c))

  -- Costs with a combination of the rows added have the same row of reduced costs.
  pub costs_shifted : (y : ℕ → ℤ) → IsCostRow m n (λ j. costs j +ℤ sum_to m (λ c. y c *ℤ columns j c)) basis den matrix row
  costs_shifted y = record { at = at }
    where
      at : (j : ℕ) → j < n → row j +ℤ sum_to m (λ k. (costs (basis k) +ℤ sum_to m (λ c. y c *ℤ columns (basis k) c)) *ℤ matrix k j) ≡ den *ℤ (costs j +ℤ sum_to m (λ c. y c *ℤ columns j c))
      at j l =
          let parted = sum_to-same m (λ k. (costs (basis k) +ℤ sum_to m (λ c. y c *ℤ columns (basis k) c)) *ℤ matrix k j) (λ k. costs (basis k) *ℤ matrix k j +ℤ sum_to m (λ c. y c *ℤ columns (basis k) c) *ℤ matrix k j) (λ k h. +ℤ-*ℤ (costs (basis k)) (sum_to m (λ c. y c *ℤ columns (basis k) c)) (matrix k j)) in
          let added = sum_to-add m (λ k. costs (basis k) *ℤ matrix k j) (λ k. sum_to m (λ c. y c *ℤ columns (basis k) c) *ℤ matrix k j) in
          let spread = *ℤ-+ℤ den (costs j) (sum_to m (λ c. y c *ℤ columns j c)) in
          let whole = z.at j l in
          let extra = combined y j l in
          omega (arith, linear)

  -- Where column j costs minus its coordinates' sum, and each basic column that and its weight: the row at j is minus the weighted
  -- sum of the column. The weights are 1 for artificial columns and 0 for those of the program.
  module _ (weight : ℕ → ℤ) (weighs : (k : ℕ) → k < m → costs (basis k) +ℤ sum_to m (λ c. columns (basis k) c) ≡ weight k) where
    pub phase_row : (j : ℕ) → j < n → costs j ≡ neg_ℤ (sum_to m (λ c. columns j c)) → row j ≡ neg_ℤ (sum_to m (λ k. weight k *ℤ matrix k j))
    phase_row j l phase =
        let ones = λ (i : ℕ). sum_to-same m (λ c. pos 1 *ℤ columns i c) (λ c. columns i c) (λ c h. one-*ℤ (columns i c)) in
        let shifted = (costs_shifted (λ c. pos 1)).at j l in
        let terms = sum_to-same m (λ k. (costs (basis k) +ℤ sum_to m (λ c. pos 1 *ℤ columns (basis k) c)) *ℤ matrix k j) (λ k. weight k *ℤ matrix k j) (λ k h. ap (λ e. e *ℤ matrix k j) (ap (λ e. costs (basis k) +ℤ e) (ones (basis k)) ∙ weighs k h)) in
        let none : costs j +ℤ sum_to m (λ c. pos 1 *ℤ columns j c) ≡ pos 0 = let one = ones j in omega (arith, linear) in
        let nothing = ap (λ e. den *ℤ e) none ∙ *ℤ-zero den in
        omega (arith, linear)

    -- Where the right side of the row is 0 in a feasible tableau, each row of weight 1 has a right side of 0.
    pub phase_done : (side : ℕ) → side < n → IsFeasible m side matrix → ((k : ℕ) → k < m → pos 0 ≤ℤ weight k) → costs side ≡ neg_ℤ (sum_to m (λ c. columns side c)) → row side ≡ pos 0 → (k : ℕ) → k < m → weight k ≡ pos 1 → matrix k side ≡ pos 0
    phase_done side right feasible over phase done k h one =
        let whole = phase_row side right phase in
        let none : sum_to m (λ i. weight i *ℤ matrix i side) ≡ pos 0 = omega (arith, linear) in
        let term = each_nothing m k (λ i. weight i *ℤ matrix i side) h (λ i l. product_not_negative (over i l) (feasible.at i l)) none in
        sym (one-*ℤ (matrix k side)) ∙ (ap (λ e. e *ℤ matrix k side) (sym one) ∙ term)
