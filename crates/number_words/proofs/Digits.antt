-- Digits in a row: more of them write no smaller number, and two lists of them write the number of the first with the
-- second behind it.
use Rattle.std.proofs.Common.{◌≡◌, ℕ, ◌+◌, ◌-◌, ◌*◌, ◌≤◌, Bool, ◌&&◌, true, false, List, [], ◌∷◌, ◌++◌, inl, inr, refl, sym, ap, ◌∙◌, arith}
use Rattle.std.specs.Prelude.{Option, Some, None, option_and_then, nat_lt, if◌then◌else◌}
use Rattle.std.specs.Char.{digit_value, is_ascii_digit}
use Rattle.std.specs.Str.{all_ascii_digits}
use Rattle.std.specs.Str.Parse.{digits_value_after}
use Rattle.std.proofs.lemmas.Bool.Decides.{nat_tests}
use Rattle.std.proofs.lemmas.Bool.{cases_lt, lt-ltb, le-ltb, and_right}
use Rattle.number_words.specs.Value.{number_behind}

pub le_value_after : (n : ℕ) (ds : List ℕ) → n ≤ digits_value_after 10 n ds
le_value_after n [] = omega arith
le_value_after n (c ∷ cs) = omega (arith, le_value_after (n * 10 + digit_value c) cs)

value_append : (n : ℕ) (xs ys : List ℕ) → digits_value_after 10 n (xs ++ ys) ≡ digits_value_after 10 (digits_value_after 10 n xs) ys
value_append n [] ys = refl
value_append n (x ∷ xs) ys = value_append (n * 10 + digit_value x) xs ys

more : (b x y z : Bool) → x ≡ (y && z) → (b && x) ≡ ((b && y) && z)
more true x y z e = e
more false x y z e = refl

digits_append : (xs ys : List ℕ) → all_ascii_digits (xs ++ ys) ≡ (all_ascii_digits xs && all_ascii_digits ys)
digits_append [] ys = refl
digits_append (x ∷ xs) ys = more (is_ascii_digit x) (all_ascii_digits (xs ++ ys)) (all_ascii_digits xs) (all_ascii_digits ys) (digits_append xs ys)

step : (a b : Bool) (n m end : ℕ) (f : ℕ → Option ℕ) → n ≤ m → f n ≡ (if b && nat_lt m end then Some m else None)
    → (if (a && b) && nat_lt m end then Some m else None) ≡ option_and_then f (if a && nat_lt n end then Some n else None)
step false b n m end f le is = refl
step true b n m end f le is =
    elim (cases_lt n end) [
      | inl below ↦ rw (lt-ltb n end below) (sym is)
      | inr over ↦ rw (le-ltb n end over, and_right b (nat_lt m end) (le-ltb m end (omega arith))) refl
    ]

pub number_joined : (front : ℕ) (xs ys : List ℕ) (end : ℕ) → number_behind front (xs ++ ys) end ≡ option_and_then (λ n. number_behind n ys end) (number_behind front xs end)
unfolding number_behind
number_joined front xs ys end =
    let n = digits_value_after 10 front xs in
    let whole = value_append front xs ys in
    let both = digits_append xs ys in
    rw (whole, both) (step (all_ascii_digits xs) (all_ascii_digits ys) n (digits_value_after 10 n ys) end (λ k. number_behind k ys end) (le_value_after n ys) refl)

-- a front that is none, and one that is a number
pub front_none : (xs ys : List ℕ) (end : ℕ) → None ≡ number_behind 0 xs end → None ≡ number_behind 0 (xs ++ ys) end
front_none xs ys end e = sym (number_joined 0 xs ys end ∙ ap (option_and_then (λ n. number_behind n ys end)) (sym e))

pub front_some : (xs ys : List ℕ) (end n : ℕ) → Some n ≡ number_behind 0 xs end → number_behind n ys end ≡ number_behind 0 (xs ++ ys) end
front_some xs ys end n e = sym (number_joined 0 xs ys end ∙ ap (option_and_then (λ n. number_behind n ys end)) (sym e))

-- a value that reading on from gives the whole value is no greater
pub over_end : (front value end : ℕ) (digits rest : List ℕ) → digits_value_after 10 value rest ≡ digits_value_after 10 front digits → end ≤ value → None ≡ number_behind front digits end
unfolding number_behind
over_end front value end digits rest whole over =
    let large : end ≤ digits_value_after 10 front digits = omega (arith, whole, le_value_after value rest) in
    rw (and_right (all_ascii_digits digits) (nat_lt (digits_value_after 10 front digits) end) (le-ltb (digits_value_after 10 front digits) end large)) refl

pub digit_is : (b : ℕ) → is_ascii_digit b ≡ true → b - 48 ≡ digit_value b
digit_is b is = grind (arith, nat_tests)
