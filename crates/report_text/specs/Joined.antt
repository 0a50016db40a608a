-- Texts of a list's items, one behind the other.
use Rattle.std.specs.Prelude.{ℕ, ◌+◌, List, [], ◌∷◌, ◌++◌}

-- the texts of items that are numbered from `start` on
abbrev pub texts_from : {X : Type 0} → (ℕ → X → List ℕ) → ℕ → List X → List ℕ
texts_from text start [] = []
texts_from text start (item ∷ rest) = text start item ++ texts_from text (start + 1) rest

-- the texts of items with no number
abbrev pub each_text : {X : Type 0} → (X → List ℕ) → List X → List ℕ
each_text text items = texts_from (λ k. text) 0 items
