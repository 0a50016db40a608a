-- The pivot of an integer tableau, with a division by the old denominator that leaves nothing over (Edmonds 1967; Bareiss 1968).
use Rattle.std.specs.Prelude.{◌≡◌, ◌≢◌, ℕ, ◌<◌, ℤ, pos, negsuc, ◌-ℤ◌, ◌*ℤ◌, neg_ℤ}

-- x, with its sign changed where p is negative
abbrev pub turned : ℤ → ℤ → ℤ
turned (pos n) x = x
turned (negsuc n) x = neg_ℤ x

-- row r, negated where its entry in column s is negative
abbrev pub pivot_row : (ℕ → ℕ → ℤ) → ℕ → ℕ → ℕ → ℤ
pivot_row matrix r s j = turned (matrix r s) (matrix r j)

-- what the pivot at (r, s) makes of the entry (i, j) of another row, before the division
abbrev pub numerator : (ℕ → ℕ → ℤ) → ℕ → ℕ → ℕ → ℕ → ℤ
numerator matrix r s i j = matrix i j *ℤ pivot_row matrix r s s -ℤ matrix i s *ℤ pivot_row matrix r s j

-- `after` comes from the rows 0 .. h - 1 and columns 0 .. n - 1 of the matrix by a pivot at (r, s)
pub record IsPivot (h n r s : ℕ) (den : ℤ) (matrix after : ℕ → ℕ → ℤ) : Type 0 where
  pub keeps : (j : ℕ) → j < n → after r j ≡ pivot_row matrix r s j
  pub divides : (i j : ℕ) → i < h → i ≢ r → j < n → after i j *ℤ den ≡ numerator matrix r s i j
