-- The value of a word of digits, and that of a number word, within the limits of the format.
use Rattle.std.specs.Prelude.{ℕ, zero, suc, ◌/◌, ◌%◌, ◌^◌, Bool, true, false, ◌&&◌, ◌==◌, nat_le, nat_lt, if◌then◌else◌, List, [], ◌∷◌, ◌++◌, length, take, drop, Option, Some, None, option_and_then}
use Rattle.std.specs.Str.{all_ascii_digits}
use Rattle.std.specs.Str.Parse.{digits_value_after}
use Rattle.number_words.specs.Number.{NumberView}
use Rattle.number_words.specs.Words.{digit_count}

-- the number that digits write behind those of `front`; none where it isn't below `end`, or where a byte is no digit
unfoldable pub number_behind : ℕ → List ℕ → ℕ → Option ℕ
number_behind front digits end = let n = digits_value_after 10 front digits in if all_ascii_digits digits && nat_lt n end then Some n else None

-- the number that digits write, where it is below `end`
abbrev pub number_below : ℕ → List ℕ → Option ℕ
number_below end digits = number_behind 0 digits end

-- the number that digits write, where it has at most 30 digits behind its leading zeros
abbrev pub short_number : List ℕ → Option ℕ
short_number digits = number_below (10 ^ 30) digits

-- a whole is at most 2^31 - 1
abbrev pub whole_value : List ℕ → Option ℕ
whole_value word = number_below (2 ^ 31) word

-- the greatest number up to k that divides both
unfoldable pub common_divisor_to : ℕ → ℕ → ℕ → ℕ
common_divisor_to zero a b = 0
common_divisor_to (suc k) a b = if a % suc k == 0 && b % suc k == 0 then suc k else common_divisor_to k a b

-- the greatest number that divides both, of which the second isn't 0
abbrev pub common_divisor : ℕ → ℕ → ℕ
common_divisor a b = common_divisor_to b a b

-- a quotient with a sign, in lowest terms; 0 has no sign
abbrev pub lowest_terms : Bool → ℕ → ℕ → NumberView
lowest_terms negative n d =
    let g = common_divisor n d in
    record { negative = negative && nat_lt 0 (n / g); num = n / g; den = d / g }

-- the limits of a number in lowest terms
abbrev pub is_limited : NumberView → Bool
is_limited number = nat_le number.num (2 ^ 40) && nat_le number.den (2 ^ 24)

-- a quotient in lowest terms, where it is within the limits; none also where it is divided by 0
unfoldable pub quotient : Bool → ℕ → ℕ → Option NumberView
quotient negative n d = if nat_lt 0 d && is_limited (lowest_terms negative n d) then Some (lowest_terms negative n d) else None

-- the digits without the zeros at their end
abbrev pub without_last_zeros : List ℕ → List ℕ
without_last_zeros [] = []
without_last_zeros (b ∷ digits) = if b == 48 && length (without_last_zeros digits) == 0 then [] else b ∷ without_last_zeros digits

-- digits, a point and digits: the zeros at the end dropped, at most 30 digits stand behind the point, and at most 30 in all
unfoldable pub decimal_value : Bool → List ℕ → List ℕ → Option NumberView
decimal_value negative whole fraction =
    let shown = without_last_zeros fraction in
    if nat_le (length shown) 30 then option_and_then (λ n. quotient negative n (10 ^ length shown)) (short_number (whole ++ shown)) else None

-- digits, a stroke and digits: at most 30 on each side
unfoldable pub quotient_value : Bool → List ℕ → List ℕ → Option NumberView
quotient_value negative above below = option_and_then (λ n. option_and_then (λ d. quotient negative n d) (short_number below)) (short_number above)

-- what stands behind the digits at the front of a number: nothing, a point and digits, or a stroke and digits
abbrev pub value_behind : Bool → List ℕ → List ℕ → Option NumberView
value_behind negative whole [] = decimal_value negative whole []
value_behind negative whole (b ∷ rest) = if b == 46 then decimal_value negative whole rest else (if b == 47 then quotient_value negative whole rest else None)

-- the value of a number without a sign
abbrev pub magnitude_value : Bool → List ℕ → Option NumberView
magnitude_value negative word = value_behind negative (take (digit_count word) word) (drop (digit_count word) word)

-- the value of a number word; none where it passes a limit
abbrev pub number_value : List ℕ → Option NumberView
number_value [] = None
number_value (b ∷ bytes) =
    if b == 43 then magnitude_value false bytes else (if b == 45 then magnitude_value true bytes else magnitude_value false (b ∷ bytes))
