-- The content of an integer tableau (Edmonds 1967, Bareiss 1968): whole numbers over one common denominator.
use Rattle.std.specs.Prelude.{ℕ, ◌+◌, ◌-◌, ◌<◌, Bool, ℤ}

-- a matrix of whole numbers with the basic column of each program row and the denominator; a spent one has lost its entries
pub record Content : Type 0 where
  pub rows : ℕ
  pub cols : ℕ
  pub entry : ℕ → ℕ → ℤ
  pub basic : ℕ → ℕ
  pub denom : ℤ
  pub spent : Bool

-- the program's rows are followed by First, Second and Phase
abbrev pub IsProgramRow : Content → ℕ → Type 0
IsProgramRow t row = row + 3 < t.rows

-- the columns of the program and the artificial ones are followed by the right sides
abbrev pub IsColumn : Content → ℕ → Type 0
IsColumn t col = col + 1 < t.cols

-- the right side of a row
abbrev pub right_side : Content → ℕ → ℤ
right_side t row = t.entry row (t.cols - 1)
