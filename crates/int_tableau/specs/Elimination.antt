-- Fraction-free elimination of one row by another, over lists of entries (Bareiss 1968).
use Rattle.std.specs.Prelude.{◌≡◌, ℕ, ◌<◌, List, length, All, ℤ, pos, ◌*ℤ◌, ◌-ℤ◌, slice_index_or}
use Rattle.corr_num.specs.Narrow.{Narrow, Wide}
use Rattle.corr_num.specs.Quotient.{IsQuotient}

-- a row of so many narrow entries
pub record IsRow (cols : ℕ) (row : List ℤ) : Type 0 where
  pub width : length row ≡ cols
  pub narrow : All Narrow row

-- an entry of a row
abbrev pub at : List ℤ → ℕ → ℤ
at row k = slice_index_or row k (pos 0)

-- the entry that elimination by the pivot's row leaves in a column, times the denominator
abbrev pub eliminated : List ℤ → List ℤ → ℕ → ℕ → ℤ
eliminated row chosen col k = at row k *ℤ at chosen col -ℤ at row col *ℤ at chosen k

-- the row after elimination; where the denominator divides, each entry is the quotient
pub record IsEliminated (row chosen : List ℤ) (col : ℕ) (denom : ℤ) (new : List ℤ) : Type 0 where
  pub is_row : IsRow (length row) new
  pub exact : (k : ℕ) (q : ℤ) → k < length row → IsQuotient (eliminated row chosen col k) denom q → at new k ≡ q

-- the row after elimination would be wide in a column, where the denominator divides
pub record IsWideIn (row chosen : List ℤ) (col : ℕ) (denom : ℤ) (k : ℕ) : Type 0 where
  pub inside : k < length row
  pub wide : (q : ℤ) → IsQuotient (eliminated row chosen col k) denom q → Wide q
