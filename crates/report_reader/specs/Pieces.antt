-- The pieces into which a report's bytes are cut (this project's format): each space, each line feed, each longest run of other
-- bytes.
use Rattle.std.specs.Prelude.{ℕ, Bool, ◌||◌, ◌==◌, if◌then◌else◌, List, [], ◌∷◌}

-- a space or a line feed
abbrev pub is_blank : ℕ → Bool
is_blank byte = byte == 32 || byte == 10

-- a byte in front of pieces goes into the first one, unless it or the first byte there is a blank
abbrev pub in_front : ℕ → List (List ℕ) → List (List ℕ)
in_front byte [] = (byte ∷ []) ∷ []
in_front byte ([] ∷ rest) = (byte ∷ []) ∷ rest
in_front byte ((next ∷ run) ∷ rest) =
    if is_blank byte || is_blank next then (byte ∷ []) ∷ (next ∷ run) ∷ rest else (byte ∷ next ∷ run) ∷ rest

-- the pieces of some bytes, in order
unfoldable pub pieces : List ℕ → List (List ℕ)
pieces [] = []
pieces (byte ∷ bytes) = in_front byte (pieces bytes)
