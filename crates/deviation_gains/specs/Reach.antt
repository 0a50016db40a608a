-- The sum of the magnitudes of a list of whole numbers.
use Rattle.std.specs.Prelude.{ℕ, ◌+◌, List, [], ◌∷◌, ℤ, unsigned_abs}

abbrev pub reach : List ℤ → ℕ
reach [] = 0
reach (x ∷ xs) = unsigned_abs x + reach xs
