-- The two kinds of simplex steps on a whole matrix: a pivot by the ratio rule, and one in a row whose right side is 0, as when
-- artificial columns are driven out. Both keep the tableau and its feasibility.
use Rattle.std.proofs.Common.{◌≡◌, ◌≢◌, ℕ, ◌<◌, ◌≤◌, ℤ, pos, ◌*ℤ◌, ◌≤ℤ◌, sym, ap, subst, ◌∙◌, ⊎_elim, arith}
use Rattle.std.proofs.lemmas.Bool.{cases_eq}
use Rattle.std.proofs.lemmas.Int.{ints}
use lib.Signed.{≤ℤ_refl}
use Rattle.exact_algebra.proofs.Families.{put}
use Rattle.exact_algebra.proofs.Order.{product_not_negative, factor_not_negative}
use Rattle.exact_algebra.proofs.RingLaws.{*ℤ_comm, *ℤ-zero}
use Rattle.exact_algebra.proofs.RingTactic.{linear}
use Rattle.exact_linear.proofs.Feasibility.{feasible_kept}
use Rattle.exact_linear.proofs.Turns.{turn_of, turned_positive}
use Rattle.exact_linear.proofs.WholeTableaus.{whole_keeps}
use Rattle.exact_linear.specs.Pivot.{pivot_row, IsPivot}
use Rattle.exact_linear.specs.Simplex.{IsFeasible, IsLeastRatio}
use Rattle.exact_linear.specs.Tableau.{IsTableauOf}

module _ {m h n r s : ℕ} {start : ℕ → ℕ → ℤ} {basis : ℕ → ℕ} {den : ℤ} {matrix after : ℕ → ℕ → ℤ} (side : ℕ) (t : IsTableauOf m h n start basis den matrix) (inside : m ≤ h) (right : side < n) (in_columns : s < n) (pivot : IsPivot h n r s den matrix after) (feasible : IsFeasible m side matrix) where
  -- A pivot by the ratio rule: the new denominator is its entry.
  pub ratio_step : IsLeastRatio m side matrix r s → IsTableauOf m h n start (put basis r s) (matrix r s) after × IsFeasible m side after
  ratio_step ratio =
      let other : matrix r s ≢ pos 0 = λ none. let over = ratio.positive in omega (arith, ints) in (
        subst (λ d. IsTableauOf m h n start (put basis r s) d after) (turned_positive (matrix r s) (matrix r s) ratio.positive) (whole_keeps t inside r s ratio.within in_columns after other pivot),
        feasible_kept side right (λ i l. omega arith) t.program.positive pivot ratio feasible,
      )

  -- A pivot in a row whose right side is 0, at an entry of either sign.
  pub level_step : r < m → matrix r s ≢ pos 0 → matrix r side ≡ pos 0 → IsTableauOf m h n start (put basis r s) (pivot_row matrix r s s) after × IsFeasible m side after
  level_step in_rows other level = (whole_keeps t inside r s in_rows in_columns after other pivot, record { at = λ i l. ⊎_elim (λ (e : i ≡ r). subst (λ k. pos 0 ≤ℤ after k side) (sym e) at_r) (elsewhere i l) (cases_eq i r) })
    where
      none : pivot_row matrix r s side ≡ pos 0
      none = (turn_of (matrix r s)).turns (matrix r side) ∙ (ap (λ x. (turn_of (matrix r s)).by *ℤ x) level ∙ *ℤ-zero (turn_of (matrix r s)).by)

      at_r : pos 0 ≤ℤ after r side
      at_r = subst (λ x. pos 0 ≤ℤ x) (sym (pivot.keeps side right ∙ none)) (≤ℤ_refl (pos 0))

      elsewhere : (i : ℕ) → i < m → i ≢ r → pos 0 ≤ℤ after i side
      elsewhere i l d =
          let over = (turn_of (matrix r s)).positive other in
          let weak : pos 0 ≤ℤ pivot_row matrix r s s = omega (arith, ints) in
          let product = product_not_negative (feasible.at i l) weak in
          let divides = pivot.divides i side (omega arith) d right in
          let nothing = ap (λ x. matrix i s *ℤ x) none ∙ *ℤ-zero (matrix i s) in
          let turn = *ℤ_comm den (after i side) in
          factor_not_negative den t.program.positive (let whole : pos 0 ≤ℤ (den *ℤ after i side) = omega (arith, linear) in whole)
