-- Bases as sets of columns.
use Rattle.std.specs.Prelude.{◌≡◌, ℕ, ◌<◌}

-- the column stands in one of m rows of the basis
abbrev pub IsBasic : ℕ → (ℕ → ℕ) → ℕ → Type 0
IsBasic m basis column = (k : ℕ) × (k < m) × (basis k ≡ column)

-- two bases of m rows have the same columns, in whatever order
pub record IsSameBasis (m : ℕ) (first second : ℕ → ℕ) : Type 0 where
  pub forth : (k : ℕ) → k < m → IsBasic m second (first k)
  pub back : (k : ℕ) → k < m → IsBasic m first (second k)
