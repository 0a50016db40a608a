-- The pivot of an integer tableau (Edmonds 1967, Bareiss 1968).
use Rattle.std.specs.Prelude.{◌≡◌, ◌≢◌, ℕ, ◌<◌, true, false, ℤ, ◌-ℤ◌, ◌*ℤ◌, Result, Ok, Err}
use Rattle.corr_num.specs.Narrow.{Wide}
use Rattle.corr_num.specs.Quotient.{IsQuotient}
use Rattle.exact_linear.specs.Pivot.{turned}
use Rattle.lp_form.specs.declared.places.Place.{Place}
use Rattle.int_tableau.specs.declared.ends.PivotEnd.{PivotEnd}
use Rattle.int_tableau.specs.declared.ends.PivotEnd.TheVariants.{Wide as WideAt, NoMemory}
use Rattle.int_tableau.specs.Content.{Content, IsNamed}

-- the row at which it pivots, with its signs turned where the entry in the pivot's column is negative
abbrev pub pivot_row : Content → ℕ → ℕ → ℕ → ℤ
pivot_row t row col j = turned (t.entry row col) (t.entry row j)

-- an entry of another row after the pivot, times the denominator before it
abbrev pub numerator : Content → ℕ → ℕ → ℕ → ℕ → ℤ
numerator t row col i j = t.entry i j *ℤ pivot_row t row col col -ℤ t.entry i col *ℤ pivot_row t row col j

-- after a pivot the column is basic in the row, and all else of the basis is as before
pub record IsNextBasis (old new : Content) (row col : ℕ) : Type 0 where
  pub rows : new.rows ≡ old.rows
  pub cols : new.cols ≡ old.cols
  pub enters : new.basic row ≡ col
  pub others : (i : ℕ) → i ≢ row → new.basic i ≡ old.basic i

-- the tableau after a pivot; each entry of another row is the quotient by the old denominator, with nothing left over
pub record IsPivoted (old new : Content) (row col : ℕ) : Type 0 where
  pub fresh : new.spent ≡ false
  pub basis : IsNextBasis old new row col
  pub denom : new.denom ≡ pivot_row old row col col
  pub pivot : (j : ℕ) → j < old.cols → new.entry row j ≡ pivot_row old row col j
  pub others : (i j : ℕ) → i < old.rows → j < old.cols → i ≢ row → IsQuotient (numerator old row col i j) old.denom (new.entry i j)

-- a place, named by the basis after the pivot, at which the pivoted matrix is wide
pub record EndsWide (old new : Content) (row col : ℕ) (place : Place) : Type 0 where
  pub spent : new.spent ≡ true
  pub basis : IsNextBasis old new row col
  pub at : ℕ
  pub other : at ≢ row
  pub in_rows : at < old.rows
  pub named : IsNamed new at place.row
  pub in_columns : place.col < old.cols
  pub entry : ℤ
  pub entry_is : IsQuotient (numerator old row col at place.col) old.denom entry
  pub wide : Wide entry

-- a pivot that memory was short for leaves a spent tableau on the basis before it
pub record EndsShort (old new : Content) : Type 0 where
  pub spent : new.spent ≡ true
  pub rows : new.rows ≡ old.rows
  pub cols : new.cols ≡ old.cols
  pub basis : (i : ℕ) → new.basic i ≡ old.basic i

-- what the answer of a pivot says
abbrev pub PivotAnswer : Content → Content → ℕ → ℕ → Result Unit PivotEnd → Type 0
PivotAnswer old new row col (Ok done) = IsPivoted old new row col
PivotAnswer old new row col (Err (WideAt place)) = EndsWide old new row col place
PivotAnswer old new row col (Err NoMemory) = EndsShort old new
