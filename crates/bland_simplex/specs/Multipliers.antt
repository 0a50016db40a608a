-- Multipliers of the rows of a program that has no solution (Farkas 1902), read off the row of the first phase.
use Rattle.std.specs.Prelude.{◌≡◌, ◌≢◌, ℕ, ◌+◌, ◌<◌, List, length, All, ℤ, pos, ◌-ℤ◌, ◌≤ℤ◌, slice_index_or}
use Rattle.corr_num.specs.Narrow.{Narrow}
use Rattle.lp_form.specs.Program.{LpView}
use Rattle.lp_form.specs.Certificates.{times_column}
use Rattle.int_tableau.specs.Content.{Content}

-- the first phase is at its end and hasn't come to 0
pub record IsStuck (rows cols : ℕ) (t : Content) : Type 0 where
  pub not_negative : (col : ℕ) → col < cols + rows → pos 0 ≤ℤ t.entry (rows + 2) col
  pub above : t.entry (rows + 2) (cols + rows) ≢ pos 0

-- one multiplier a row: the denominator less the first phase's entry in the row's artificial column
pub record AreMultipliers (rows cols : ℕ) (t : Content) (multipliers : List ℤ) : Type 0 where
  pub one_each : length multipliers ≡ rows
  pub values : (row : ℕ) → row < rows → slice_index_or multipliers row (pos 0) ≡ t.denom -ℤ t.entry (rows + 2) (cols + row)
  pub narrow : All Narrow multipliers

-- what the multipliers make of each column of the program is narrow
abbrev pub HasNarrowColumns : LpView → List ℤ → Type 0
HasNarrowColumns lp multipliers = (col : ℕ) → col < lp.cols → Narrow (times_column lp multipliers col)
