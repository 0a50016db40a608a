-- The tableaus that pivots lead to from a start (Edmonds 1967; as integer pivoting in Avis, lrs, 2000).
use Rattle.std.specs.Prelude.{◌≡◌, ℕ, ◌+◌, ◌-◌, ◌<◌, ◌≤◌, ℤ}
use Rattle.exact_linear.specs.Basis.{IsSameBasis}
use Rattle.exact_linear.specs.Tableau.{IsTableauOf}
use Rattle.int_tableau.specs.Shape.{Content, IsProgramRow}

-- the entries are the start's tableau over the basis, with First, Second and Phase as rows of reduced costs
abbrev pub IsReachedFrom : (ℕ → ℕ → ℤ) → Content → Type 0
IsReachedFrom start t = IsTableauOf (t.rows - 3) t.rows t.cols start t.basic t.denom t.entry

-- some start's tableau
abbrev pub IsReached : Content → Type 0
IsReached t = (start : ℕ → ℕ → ℤ) × IsReachedFrom start t

-- equal but for the order of the program rows
pub record IsSameButForOrder (t u : Content) : Type 0 where
  pub denom : u.denom ≡ t.denom
  pub program_rows : (k l j : ℕ) → IsProgramRow t k → IsProgramRow t l → j < t.cols → u.basic k ≡ t.basic l → u.entry k j ≡ t.entry l j
  pub cost_rows : (i j : ℕ) → t.rows ≤ i + 3 → i < t.rows → j < t.cols → u.entry i j ≡ t.entry i j

-- tableaus of one size and one start whose bases have the same columns
pub record HaveOneBasis (start : ℕ → ℕ → ℤ) (t u : Content) : Type 0 where
  pub rows : u.rows ≡ t.rows
  pub cols : u.cols ≡ t.cols
  pub first : IsReachedFrom start t
  pub second : IsReachedFrom start u
  pub same : IsSameBasis (t.rows - 3) t.basic u.basic
