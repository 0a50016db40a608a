-- Runs of steps: one run behind another, and how the end of the last pivot ends a run.
use Rattle.std.proofs.Common.{◌≡◌, ℕ, Result, Ok, Err, refl}
use Rattle.std.specs.Result.{IsErrAnd, IfErr}
use Rattle.int_tableau.specs.declared.ends.PivotEnd.{PivotEnd}
use Rattle.int_tableau.specs.declared.ends.PivotEnd.TheVariants.{Wide, NoMemory}
use Rattle.int_tableau.specs.Content.{Content}
use Rattle.int_tableau.specs.Pivot.{PivotAnswer}
use Rattle.bland_simplex.specs.Steps.{StepsLead, stays, goes, StepsEnd}

module _ {Step : Content → ℕ → ℕ → Type 0} where
  pub leads_on : (first middle last : Content) → StepsLead Step first middle → StepsLead Step middle last → StepsLead Step first last
  leads_on first middle _ before stays = before
  leads_on first middle next before (goes at _ row col led step pivoted) = goes at next row col (leads_on first middle at before led)
      step pivoted

  pub ends_on : (first middle new : Content) (end : PivotEnd) → StepsLead Step first middle → StepsEnd Step middle new end →
      StepsEnd Step first new end
  ends_on first middle new (Wide place) before ended = record {
    last = ended.last;
    row = ended.row;
    col = ended.col;
    led = leads_on first middle ended.last before ended.led;
    step = ended.step;
    wide = ended.wide;
  }
  ends_on first middle new NoMemory before ended = record {
    last = ended.last;
    led = leads_on first middle ended.last before ended.led;
    rows = ended.rows;
    cols = ended.cols;
    basis =
        ended.basis;
  }

  -- A pivot that doesn't come to its aim ends the run.
  pub pivot_ends : (first last new : Content) (row col : ℕ) (end : PivotEnd) → StepsLead Step first last → Step last row col →
      PivotAnswer last new row col (Err end) → StepsEnd Step first new end
  pivot_ends first last new row col (Wide place)
      led step answer = record { last = last; row = row; col = col; led = led; step = step; wide = answer }
  pivot_ends first last new row col NoMemory led step answer = record
      { last = last; led = led; rows = answer.rows; cols = answer.cols; basis = answer.basis }

  -- Where memory is short between pivots, the tableau is left as it is.
  pub short_ends : (first last : Content) → StepsLead Step first last → StepsEnd Step first last NoMemory
  short_ends first last led = record { last = last; led = led; rows = refl; cols = refl; basis = λ row. refl }

-- What holds of an error holds of the answer that hands it on.
pub error_named : {A E : Type 0} (r : Result A E) (e : E) (P : E → Type 0) → IsErrAnd r (λ x. x ≡ e) → P e → IfErr r P
error_named (Ok a) e P is held = absurd is
error_named (Err x) e P is held = rw is held
