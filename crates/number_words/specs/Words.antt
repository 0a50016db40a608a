-- Which words are wholes and numbers.
use Rattle.std.specs.Prelude.{ℕ, ◌+◌, Bool, true, false, not, ◌&&◌, ◌||◌, ◌==◌, nat_lt, if◌then◌else◌, List, [], ◌∷◌, length, drop}
use Rattle.std.specs.Char.{is_ascii_digit}

-- how many digits stand at the front
abbrev pub digit_count : List ℕ → ℕ
digit_count [] = 0
digit_count (b ∷ bytes) = if is_ascii_digit b then digit_count bytes + 1 else 0

-- nothing but digits
abbrev pub is_digits : List ℕ → Bool
is_digits word = digit_count word == length word

-- nothing but the digit 0
abbrev pub is_null : List ℕ → Bool
is_null [] = true
is_null (b ∷ bytes) = b == 48 && is_null bytes

-- a whole has one or more digits
abbrev pub is_whole : List ℕ → Bool
is_whole word = not (length word == 0) && is_digits word

-- what may stand behind `count` digits of a number: nothing, a point and digits, or a stroke and a divisor that isn't 0
abbrev pub ends_number : ℕ → List ℕ → Bool
ends_number count [] = nat_lt 0 count
ends_number count (b ∷ bytes) =
    if b == 46 then is_digits bytes && (nat_lt 0 count || not (length bytes == 0))
    else (if b == 47 then nat_lt 0 count && is_whole bytes && not (is_null bytes)
    else false)

-- a number without a sign
abbrev pub is_magnitude : List ℕ → Bool
is_magnitude word = ends_number (digit_count word) (drop (digit_count word) word)

-- a number has a sign or none
abbrev pub is_number : List ℕ → Bool
is_number [] = false
is_number (b ∷ bytes) = if b == 43 || b == 45 then is_magnitude bytes else is_magnitude (b ∷ bytes)
