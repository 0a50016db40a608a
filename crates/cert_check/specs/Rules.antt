-- Rules in an order, and the first of them that doesn't hold.
use Rattle.std.specs.Prelude.{◌≡◌, ◌⊎◌, ℕ, zero, suc, ◌+◌, List, [], ◌∷◌}

-- this rule doesn't hold, and all before it do
abbrev pub IsFirstBroken : {R : Type 0} → (R → Type 0) → List R → R → Type 0
IsFirstBroken Holds [] broken = ⊥
IsFirstBroken Holds (rule ∷ rest) broken = ((rule ≡ broken) × (Holds rule → ⊥)) ⊎ (Holds rule × IsFirstBroken Holds rest broken)

-- all of them hold
abbrev pub AllHold : {R : Type 0} → (R → Type 0) → List R → Type 0
AllHold Holds [] = Unit {0}
AllHold Holds (rule ∷ rest) = Holds rule × AllHold Holds rest

-- two rules for each of so many columns, column by column from `first` on
abbrev pub by_column : {R : Type 0} → (ℕ → R) → (ℕ → R) → ℕ → ℕ → List R
by_column one two first zero = []
by_column one two first (suc count) = one first ∷ two first ∷ by_column one two (first + 1) count
