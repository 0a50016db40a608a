-- Each pivot is one of the start's tableau, so that its divisions leave nothing over and it keeps the start. By the lemmas on
-- whole tableaus, for a content as the clauses have it.
use Rattle.std.proofs.Common.{◌≡◌, ◌≢◌, ⊎_elim, ℕ, ◌+◌, ◌-◌, ◌<◌, ◌≤◌, ℤ, pos, ◌∙◌, refl, sym, arith}
use Rattle.std.proofs.lemmas.Bool.{cases_eq}
use Rattle.exact_algebra.proofs.Families.{put, put-same, put-other}
use Rattle.exact_linear.proofs.Alike.{same_whole}
use Rattle.exact_linear.proofs.WholeTableaus.{pivot_exact, whole_keeps}
use Rattle.exact_linear.specs.Pivot.{IsPivot}
use Rattle.corr_num.specs.Quotient.{IsQuotient}
use Rattle.int_tableau.specs.Content.{Content}
use Rattle.int_tableau.specs.Pivot.{numerator, IsPivoted}
use Rattle.int_tableau.specs.Reached.{IsReached, IsReachedFrom}

pub quotient_of : (old : Content) (row col : ℕ) → 3 ≤ old.rows → row + 3 < old.rows → col + 1 < old.cols → IsReached old → (i j : ℕ) → i < old.rows → i ≢ row → j < old.cols → (q : ℤ) × IsQuotient (numerator old row col i j) old.denom q
quotient_of old row col three in_rows in_columns reached i j h other k = pivot_exact reached.1 (omega arith) row col (omega arith) (omega arith) i j h other k

pub pivot_of : (old new : Content) (row col : ℕ) → IsPivoted old new row col → IsPivot old.rows old.cols row col old.denom old.entry new.entry
pivot_of old new row col p = record { keeps = p.pivot; divides = λ i j h other k. p.others i j h k other }

-- A pivot leaves a tableau of the same start.
pub start_kept : (start : ℕ → ℕ → ℤ) (old new : Content) (row col : ℕ) → 3 ≤ old.rows → row + 3 < old.rows → col + 1 < old.cols → old.entry row col ≢ pos 0 → IsPivoted old new row col → IsReachedFrom start old → IsReachedFrom start new
start_kept start old new row col three in_rows in_columns not_zero p t =
    let inside : old.rows - 3 ≤ old.rows = omega arith in
    let kept = whole_keeps t inside row col (omega arith) (omega arith) new.entry not_zero (pivot_of old new row col p) in
    rw (p.basis.rows, p.basis.cols) (same_whole inside basis p.denom (λ i j h l. refl) kept)
  where
    basis : (k : ℕ) → k < old.rows - 3 → new.basic k ≡ put old.basic row col k
    basis k h = ⊎_elim
        (λ (e : k ≡ row). rw e (p.basis.enters ∙ sym (put-same old.basic row col)))
        (λ (d : k ≢ row). p.basis.others k d ∙ sym (put-other old.basic row col k d))
        (cases_eq k row)
