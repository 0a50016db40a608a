-- Words that are read as whole numbers.
use Rattle.std.specs.Prelude.{ℕ, ◌^◌, ℤ, pos, neg_ℤ, Bool, ◌&&◌, ◌==◌, nat_le, if◌then◌else◌, List, [], ◌∷◌, length, Option, Some, None, option_map, option_and_then}
use Rattle.std.specs.Str.{all_ascii_digits}
use Rattle.std.specs.Str.Parse.{digits_value}

-- the word has 1 to 9 decimal digits, and nothing else
abbrev pub is_short : List ℕ → Bool
is_short word = nat_le 1 (length word) && nat_le (length word) 9 && all_ascii_digits word

-- the value of a word of 1 to 9 decimal digits, which may begin with zeros
abbrev pub short_number : List ℕ → Option ℕ
short_number word = if is_short word then Some (digits_value 10 word) else None

-- the same, up to 2^28
abbrev pub magnitude : List ℕ → Option ℕ
magnitude word = option_and_then (λ n. if nat_le n (2 ^ 28) then Some n else None) (short_number word)

-- a minus or none, and then a magnitude
abbrev pub amount : List ℕ → Option ℤ
amount [] = None
amount (b ∷ bytes) =
    if b == 45 then option_map (λ n. neg_ℤ (pos n)) (magnitude bytes) else option_map pos (magnitude (b ∷ bytes))
