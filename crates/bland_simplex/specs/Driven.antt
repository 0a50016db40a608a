-- Artificial columns that can't be driven out of the basis.
use Rattle.std.specs.Prelude.{◌≡◌, ◌≢◌, ℕ, ◌<◌, ◌≤◌, Option, MatchOption, pos}
use Rattle.bland_simplex.specs.declared.driving.Candidate.{Candidate}
use Rattle.int_tableau.specs.Content.{Content}

-- a row is 0 in the program's columns
abbrev pub IsZeroRow : Content → ℕ → ℕ → Type 0
IsZeroRow t cols row = (col : ℕ) → col < cols → t.entry row col ≡ pos 0

-- a row with a basic artificial column is 0 in the program's columns
abbrev pub IsIdle : Content → ℕ → ℕ → Type 0
IsIdle t cols row = cols ≤ t.basic row → IsZeroRow t cols row

-- each row with a basic artificial column is 0 in the program's columns
abbrev pub IsDriven : Content → ℕ → ℕ → Type 0
IsDriven t rows cols = (row : ℕ) → row < rows → IsIdle t cols row

-- an entry that isn't 0, of a row with a basic artificial column and in a column of the program
pub record DrivesOut (t : Content) (rows cols row col : ℕ) : Type 0 where
  pub in_rows : row < rows
  pub in_columns : col < cols
  pub artificial : cols ≤ t.basic row
  pub not_zero : t.entry row col ≢ pos 0

-- such an entry was found, or else this holds
abbrev pub FindsOut : Content → ℕ → ℕ → Type 0 → Option Candidate → Type 0
FindsOut t rows cols otherwise found = MatchOption found otherwise (λ c. DrivesOut t rows cols c.row c.col)
