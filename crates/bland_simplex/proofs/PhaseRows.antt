-- A row for the ratio rule in the first phase. Where no column costs less than minus the sum of its coordinates, the row of reduced
-- costs is, up to what is not negative, minus the basic columns' weights times their rows; so a column at which it is negative has
-- a positive entry in some row.
use Rattle.std.proofs.Common.{◌≡◌, ℕ, ◌<◌, ℤ, pos, ◌+ℤ◌, ◌*ℤ◌, ◌≤ℤ◌, ◌<ℤ◌, refl, sym, ap, ◌∙◌, arith}
use Rattle.std.proofs.lemmas.Int.{ints}
use lib.Signed.{lt_z}
use Rattle.exact_algebra.proofs.FiniteChoice.{FirstBelow, first, no_first, first_below}
use Rattle.exact_algebra.proofs.Order.{product_not_negative, product_not_positive}
use Rattle.exact_algebra.proofs.RingLaws.{one-*ℤ}
use Rattle.exact_algebra.proofs.RingTactic.{linear}
use Rattle.exact_algebra.proofs.SumOrder.{sum_to_at_most}
use Rattle.exact_algebra.proofs.Sums.{sum_to-same, sum_to-nothing}
use Rattle.exact_algebra.specs.Sums.{sum_to}
use Rattle.exact_linear.proofs.Phase.{costs_shifted}
use Rattle.exact_linear.specs.Tableau.{IsTableau, IsCostRow}

module _ {m n : ℕ} {columns : ℕ → ℕ → ℤ} {costs row : ℕ → ℤ} {basis : ℕ → ℕ} {den : ℤ} {matrix : ℕ → ℕ → ℤ} (t : IsTableau m n columns basis den matrix) (z : IsCostRow m n costs basis den matrix row) where
  -- What a column costs and the sum of its coordinates come to.
  abbrev weight : ℕ → ℤ
  weight j = costs j +ℤ sum_to m (λ c. columns j c)

  weighed : (j : ℕ) → j < n → row j +ℤ sum_to m (λ k. weight (basis k) *ℤ matrix k j) ≡ den *ℤ weight j
  weighed j l =
      let ones = λ (i : ℕ). sum_to-same m (λ c. pos 1 *ℤ columns i c) (λ c. columns i c) (λ c h. one-*ℤ (columns i c)) in
      let shifted = (costs_shifted t z (λ c. pos 1)).at j l in
      let terms = sum_to-same m (λ k. (costs (basis k) +ℤ sum_to m (λ c. pos 1 *ℤ columns (basis k) c)) *ℤ matrix k j)
      (λ k. weight (basis k) *ℤ matrix k j) (λ k h. ap (λ e. (costs (basis k) +ℤ e) *ℤ matrix k j) (ones (basis k))) in
      let own = ap (λ e. den *ℤ (costs j +ℤ e)) (ones j) in
      ap (λ e. row j +ℤ e) (sym terms) ∙ (shifted ∙ own)

  pub some_phase_row : ((j : ℕ) → j < n → pos 0 ≤ℤ weight j) → (s : ℕ) → s < n → row s <ℤ pos 0 → (i : ℕ) × (i < m) × (pos 0 <ℤ matrix i s)
  some_phase_row over s l negative = by (first_below (λ i. lt_z (pos 0) (matrix i s)) m)
    where
      none : ((i : ℕ) → i < m → matrix i s ≤ℤ pos 0) → ⊥
      none no_row =
          let low = sum_to_at_most m (λ k. weight (basis k) *ℤ matrix k s) (λ k. pos 0)
          (λ k h. product_not_positive (over (basis k) (t.within k h)) (no_row k h)) in
          let nothing = sum_to-nothing m (λ k. pos 0) (λ k h. refl) in
          let positive = t.positive in
          let weak : pos 0 ≤ℤ den = omega (arith, ints) in
          let high = product_not_negative weak (over s l) in
          let whole = weighed s l in
          omega (arith, linear)

      by : FirstBelow (λ i. lt_z (pos 0) (matrix i s)) m → (i : ℕ) × (i < m) × (pos 0 <ℤ matrix i s)
      by (first k h passes before) = (k, h, omega (arith, ints))
      by (no_first none_passes) = absurd (none (λ i h. let fails = none_passes i h in omega (arith, ints)))
