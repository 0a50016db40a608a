-- The rules on the probabilities of a chance line.
use Rattle.std.specs.Prelude.{◌≡◌, ℕ, ◌*◌, ◌/◌, ◌^◌, ◌<◌, ◌≤◌, Option, Some, None, ℤ, pos, ◌+ℤ◌, ◌*ℤ◌, Bool, false, ◌||◌, List, [], ◌∷◌}
use Rattle.std.specs.Ordering.{int_eq}
use Rattle.number_words.specs.Number.{NumberView, signed}
use Rattle.number_words.specs.Value.{common_divisor}

-- a probability is below 0
abbrev pub has_negative : List NumberView → Bool
has_negative [] = false
has_negative (prob ∷ probs) = prob.negative || has_negative probs

-- the least common multiple of two numbers above 0
abbrev pub common_multiple : ℕ → ℕ → ℕ
common_multiple a b = a / common_divisor a b * b

-- the least common multiple of a number and the denominators of a list
abbrev pub common_from : ℕ → List NumberView → ℕ
common_from common [] = common
common_from common (prob ∷ probs) = common_from (common_multiple common prob.den) probs

-- the least common denominator of a list
abbrev pub common_denominator : List NumberView → ℕ
common_denominator probs = common_from 1 probs

-- a common multiple is kept where it is at most 2^40
abbrev pub IsKept : Option ℕ → ℕ → Type 0
IsKept None whole = 2 ^ 40 < whole
IsKept (Some common) whole = (common ≡ whole) × (0 < common) × (common ≤ 2 ^ 40)

-- the sum of a list over a common denominator
abbrev pub sum_over : ℕ → List NumberView → ℤ
sum_over common [] = pos 0
sum_over common (prob ∷ probs) = signed prob *ℤ pos (common / prob.den) +ℤ sum_over common probs

-- the sum is 1
abbrev pub sum_to_one : List NumberView → Bool
sum_to_one probs = int_eq (sum_over (common_denominator probs) probs) (pos (common_denominator probs))
