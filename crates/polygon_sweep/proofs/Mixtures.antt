-- Where one row sums all columns to 1 no number passes the total, so that what is paid is bounded.
use Rattle.std.proofs.Common.{◌≡◌, ◌≢◌, ⊎_elim, ℕ, ◌+◌, ◌<◌, length, ℤ, pos, ◌*ℤ◌, sym, ap, ◌∙◌, arith}
use Rattle.std.proofs.lemmas.Bool.{cases_eq}
use Rattle.exact_algebra.proofs.RingTactic.{ring_laws, linear}
use Rattle.exact_algebra.proofs.SumOrder.{term_at_most}
use Rattle.exact_algebra.proofs.Sums.{sum_to-same}
use Rattle.lp_form.proofs.Bounding.{bounded_by_total}
use Rattle.lp_form.specs.Program.{LpView, coefficient, right_of}
use Rattle.lp_form.specs.Solutions.{HasBoundedPayoffs}

-- the first n coefficients of the first row are 1
pub record SumsUp (lp : LpView) (n : ℕ) : Type 0 where
  pub at : (k : ℕ) → k < n → coefficient lp 0 k ≡ pos 1

pub none_summed : (lp : LpView) → SumsUp lp 0
none_summed lp = record { at = λ k h. absurd (omega arith) }

pub one_more : (old new : LpView) (n : ℕ) → SumsUp old n → coefficient new 0 n ≡ pos 1 → ((k : ℕ) → k ≢ n → coefficient new 0 k ≡ coefficient old 0 k) → SumsUp new (n + 1)
one_more old new n before here others = record { at = λ k h. ⊎_elim (λ (e : k ≡ n). rw e here) (λ (d : k ≢ n). others k d ∙ before.at k (omega arith)) (cases_eq k n) }

pub summed_bounded : (lp : LpView) → 0 < length lp.rows → right_of lp 0 ≡ pos 1 → SumsUp lp lp.cols → HasBoundedPayoffs lp
summed_bounded lp some right sums = bounded_by_total lp (λ total x positive s k low.
    let each = sum_to-same lp.cols (λ j. coefficient lp 0 j *ℤ x j) x (λ j l. ap (λ e. e *ℤ x j) (sums.at j l) ∙ one_times (x j)) in
    let whole = sym each ∙ (s.meets 0 some ∙ (ap (λ e. total *ℤ e) right ∙ times_one total)) in
    rw (← whole) (term_at_most lp.cols k x low s.not_negative))
  where
    one_times : (z : ℤ) → pos 1 *ℤ z ≡ z
    one_times z = simp ring_laws (omega (arith, linear))

    times_one : (z : ℤ) → z *ℤ pos 1 ≡ z
    times_one z = simp ring_laws (omega (arith, linear))
