-- The exchange of one basic column for another (Dantzig 1963).
use Rattle.std.specs.Prelude.{◌≡◌, ℕ, ◌<◌, List, length, slice_set}

-- the column is basic at the row, in the place of the one before, and no other row's changed
abbrev pub IsExchanged : List ℕ → ℕ → ℕ → List ℕ → Type 0
IsExchanged old row column new = (row < length old) × (new ≡ slice_set old row column)
