-- A row of a sparse matrix: the entries that are stored, in ascending order of their columns (the usual compressed form).
use Rattle.std.specs.Prelude.{◌≡◌, ℕ, ◌+◌, ◌<◌, ◌≤◌, suc, zero, List, [], ◌∷◌, ℤ, pos, nat_eq, cond, Result, Ok, Err, FitsSigned}
use Rattle.std.specs.Int.{w64}
use Rattle.lp_form.specs.declared.entries.Entry.{Entry}

-- the coefficient in a column, 0 where none is stored
abbrev pub value_at : List Entry → ℕ → ℤ
value_at [] col = pos 0
value_at (entry ∷ rest) col = cond (nat_eq entry.col col) entry.value (value_at rest col)

-- the columns ascend strictly, from `low` on and below `cols`, and each value is one of 64 bits
abbrev pub Ascends : ℕ → ℕ → List Entry → Type 0
Ascends low cols [] = Unit {0}
Ascends low cols (entry ∷ rest) = (low ≤ entry.col) × (entry.col < cols) × FitsSigned w64 entry.value × Ascends (entry.col + 1) cols rest

-- a row over so many columns
abbrev pub IsRow : ℕ → List Entry → Type 0
IsRow cols entries = Ascends 0 cols entries

-- the first entry, if there is one, stands behind this column
abbrev pub StartsBehind : ℕ → List Entry → Type 0
StartsBehind col [] = Unit {0}
StartsBehind col (entry ∷ rest) = col < entry.col

-- the entry of a column stands here, behind entries in lower columns
abbrev pub IsStored : List Entry → ℕ → ℕ → Type 0
IsStored [] col at = ⊥
IsStored (entry ∷ rest) col zero = entry.col ≡ col
IsStored (entry ∷ rest) col (suc at) = (entry.col < col) × IsStored rest col at

-- a column has no entry, and the entries in lower columns are those before this place
abbrev pub IsFree : List Entry → ℕ → ℕ → Type 0
IsFree entries col zero = StartsBehind col entries
IsFree [] col (suc at) = ⊥
IsFree (entry ∷ rest) col (suc at) = (entry.col < col) × IsFree rest col at

-- a search says where the entry is, or where it would have to be put
abbrev pub Finds : List Entry → ℕ → Result ℕ ℕ → Type 0
Finds entries col (Ok at) = IsStored entries col at
Finds entries col (Err at) = IsFree entries col at
