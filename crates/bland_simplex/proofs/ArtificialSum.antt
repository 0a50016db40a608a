-- Phase's right side: each row with a basic artificial column weighs 1 there, and the others weigh 0.
use Rattle.std.proofs.Common.{◌≡◌, ⊎_elim, ℕ, ◌+◌, ◌-◌, ◌<◌, ◌≤◌, ℤ, pos, ◌*ℤ◌, neg_ℤ, true, false, nat_lt, cond, length, refl, sym, ap, ◌∙◌, arith, lt-ltb, le-ltb}
use Rattle.std.proofs.lemmas.Bool.{cases_lt}
use Rattle.exact_algebra.proofs.RingLaws.{zero-*ℤ, one-*ℤ}
use Rattle.exact_algebra.proofs.Sums.{sum_to-same}
use Rattle.exact_algebra.specs.Sums.{sum_to}
use Rattle.exact_linear.proofs.Phase.{phase_row}
use Rattle.lp_form.specs.Program.{LpView}
use Rattle.int_tableau.specs.Content.{Content, right_side}
use Rattle.int_tableau.specs.Start.{start_entry}
use Rattle.bland_simplex.proofs.Emptiness.{opposite_of}
use Rattle.bland_simplex.proofs.StartEntries.{phase_weight, weight_program, weight_right, weight_artificial}
use Rattle.bland_simplex.proofs.Wholes.{side, whole_of}
use Rattle.bland_simplex.specs.Ready.{IsUnderWay, artificial_sum}

weighed : (lp : LpView) (col : ℕ) (value : ℤ) → col < side lp → phase_weight lp col *ℤ value ≡ cond (nat_lt col lp.cols) (pos 0) value
weighed lp col value l =
    ⊎_elim
    (λ (h : col < lp.cols).
    let test : nat_lt col lp.cols ≡ true = lt-ltb col lp.cols h in
    ap (λ e. e *ℤ value) (weight_program lp col h) ∙ (zero-*ℤ value ∙ rw test refl))
    (λ (h : lp.cols ≤ col).
    let test : nat_lt col lp.cols ≡ false = le-ltb col lp.cols h in
    let same : lp.cols + (col - lp.cols) ≡ col = omega arith in
    ap (λ e. phase_weight lp e *ℤ value) (sym same)
    ∙ (ap (λ e. e *ℤ value) (weight_artificial lp (col - lp.cols) (omega arith)) ∙ (one-*ℤ value ∙ rw test refl)))
    (cases_lt col lp.cols)

pub phase_is_sum : (lp : LpView) (t : Content) → IsUnderWay lp t → right_side t (length lp.rows + 2) ≡ neg_ℤ (artificial_sum lp t)
phase_is_sum lp t way =
    let whole = whole_of lp t way.open way.reached in
    let last : t.cols - 1 ≡ side lp = omega (arith, way.open.cols_are) in
    rw (right_side, last)
    (phase_row whole.program (whole.costs (length lp.rows + 2) (omega arith) (omega arith))
    (λ k. phase_weight lp (t.basic k)) (λ k l. refl) (side lp) (omega arith)
    (opposite_of (start_entry lp (length lp.rows + 2) (side lp)) (sum_to (length lp.rows) (λ c. start_entry lp c (side lp)))
    (weight_right lp))
    ∙ ap neg_ℤ (sum_to-same (length lp.rows) _ _ (λ k h.
    weighed lp (t.basic k) (t.entry k (side lp))
    (let column = way.open.rules.basis k (omega (arith, way.open.rows_are)) in omega (arith, way.open.cols_are)))))
