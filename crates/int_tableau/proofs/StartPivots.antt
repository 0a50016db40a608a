-- A pivot of the starting tableau at a row's own artificial column: the entry there is 1 and the others of that column are 0, so each
-- entry stays.
use Rattle.std.proofs.Common.{◌≡◌, ◌≢◌, ⊎_elim, ℕ, ◌+◌, ◌<◌, inl, inr, ℤ, pos, ◌*ℤ◌, ◌-ℤ◌, length, sym, ap, ◌∙◌, arith}
use Rattle.std.proofs.lemmas.Bool.{cases_eq, cases_lt}
use Rattle.exact_algebra.proofs.RingTactic.{ring_laws, linear}
use Rattle.exact_linear.specs.Pivot.{turned}
use Rattle.exact_linear.proofs.Determinant.{unit-same, unit-other}
use Rattle.lp_form.specs.Program.{LpView}
use Rattle.int_tableau.specs.Content.{Content}
use Rattle.int_tableau.specs.Pivot.{IsPivoted, pivot_row}
use Rattle.int_tableau.specs.Start.{IsStart}
use Rattle.int_tableau.proofs.Starting.{artificial, free}

by_one : (q a x p y : ℤ) → q *ℤ pos 1 ≡ a *ℤ p -ℤ x *ℤ y → p ≡ pos 1 → x ≡ pos 0 → q ≡ a
by_one q a x p y h one none = (let given = simp ring_laws at (rw (one, none) at h) in omega (arith, linear))

module _ (lp : LpView) (t next : Content) (start : IsStart lp t) (row : ℕ) (inside : row < length lp.rows)
    (pivoted : IsPivoted t next row (lp.cols + row)) where
  own_one : t.entry row (lp.cols + row) ≡ pos 1
  own_one =
      start.entries row (lp.cols + row) (omega (arith, start.rows)) (omega (arith, start.cols))
      ∙ artificial lp row row inside inside
      ∙ unit-same row

  others_none : (i : ℕ) → i < t.rows → i ≢ row → t.entry i (lp.cols + row) ≡ pos 0
  others_none i low apart =
      start.entries i (lp.cols + row) low (omega (arith, start.cols))
      ∙ elim (cases_lt i (length lp.rows)) [
        | inl program ↦ artificial lp row i inside program ∙ unit-other row i (λ same. apart (sym same))
        | inr cost ↦ free lp i row cost (omega (arith, start.rows)) inside
      ]

  row_kept : (j : ℕ) → pivot_row t row (lp.cols + row) j ≡ t.entry row j
  row_kept j = ap (λ (z : ℤ). turned z (t.entry row j)) own_one

  pub same_denom : next.denom ≡ t.denom
  same_denom = pivoted.denom ∙ row_kept (lp.cols + row) ∙ own_one ∙ sym start.denom

  pub same_basis : (i : ℕ) → i < length lp.rows → next.basic i ≡ t.basic i
  same_basis i low = ⊎_elim
      (λ (e : i ≡ row). (let enters = pivoted.basis.enters in rw e (enters ∙ sym (start.basis row inside))))
      (λ (apart : i ≢ row). pivoted.basis.others i apart) (cases_eq i row)

  pub same_entries : (i j : ℕ) → i < t.rows → j < t.cols → next.entry i j ≡ t.entry i j
  same_entries i j low left = ⊎_elim
      (λ (e : i ≡ row). rw e (pivoted.pivot j left ∙ row_kept j))
      (λ (apart : i ≢ row). (let whole = pivoted.others i j low left apart in
      by_one (next.entry i j) (t.entry i j) (t.entry i (lp.cols + row)) (pivot_row t row (lp.cols + row) (lp.cols + row))
      (pivot_row t row (lp.cols + row) j) (rw (← start.denom) whole) (row_kept (lp.cols + row) ∙ own_one) (others_none i low apart)))
      (cases_eq i row)

  pub start_again : IsStart lp next
  start_again = record {
    rows = pivoted.basis.rows ∙ start.rows;
    cols = pivoted.basis.cols ∙ start.cols;
    fresh = pivoted.fresh;
    denom = same_denom ∙ start.denom;
    basis = λ i low. same_basis i low ∙ start.basis i low;
    entries = λ i j low left.
        let rows : i < t.rows = omega (arith, pivoted.basis.rows) in
        let cols : j < t.cols = omega (arith, pivoted.basis.cols) in
        same_entries i j rows cols ∙ start.entries i j rows cols;
  }
