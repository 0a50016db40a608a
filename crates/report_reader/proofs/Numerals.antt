-- Digits with no leading zero are the text of the number that they write, from the first digit to the last.
use Rattle.std.proofs.Common.{◌≡◌, ℕ, ◌+◌, ◌*◌, ◌/◌, ◌%◌, ◌-◌, ◌^◌, ◌<◌, ◌≤◌, Bool, true, false, ◌&&◌}
use Rattle.std.proofs.Common.{suc, ℤ, pos, negsuc, unsigned_abs, subst, length-append, drop}
use Rattle.std.proofs.Common.{List, [], ◌∷◌, ◌++◌, length, get_or, refl, sym, ap, ◌∙◌, append_assoc, append-nil, arith}
use Rattle.std.specs.Char.{digit_value, is_ascii_digit}
use Rattle.std.specs.Fmt.{decimal, signed_decimal}
use Rattle.std.specs.Str.{all_ascii_digits}
use Rattle.std.specs.Str.Parse.{AllDigits, digits_value, digits_value_after}
use Rattle.std.proofs.lemmas.Bool.Decides.{nat_tests}
use Rattle.std.proofs.lemmas.Bool.{and_from}
use Rattle.std.proofs.lemmas.List.{at_drop_more}
use Rattle.std.proofs.lemmas.Fmt.{decimal_by_steps_wide, decimal_digit, decimal_is_IsNumeral_wide, decimal_step_wide}

-- an ASCII digit is 48 and its value, which is below 10
pub digit_is : (b : ℕ) → is_ascii_digit b ≡ true → b - 48 ≡ digit_value b
digit_is b is = grind (arith, nat_tests)

pub digit_over : (b : ℕ) → is_ascii_digit b ≡ true → (48 ≤ b) × (b ≤ 57)
digit_over b is = grind (arith, nat_tests)

pub both : (a b : Bool) → (a && b) ≡ true → (a ≡ true) × (b ≡ true)
both true b e = (refl, e)
both false b e = absurd (cc)

le_value_after : (n : ℕ) (ds : List ℕ) → n ≤ digits_value_after 10 n ds
le_value_after n [] = omega arith
le_value_after n (c ∷ cs) = omega (arith, le_value_after (n * 10 + digit_value c) cs)

-- digits behind a number
decimal_value_after : (n : ℕ) (ds : List ℕ) → 0 < n → all_ascii_digits ds ≡ true → digits_value_after 10 n ds < 10 ^ 64
    → decimal (digits_value_after 10 n ds) ≡ decimal n ++ ds
decimal_value_after n [] some all small = sym (append-nil (decimal n))
decimal_value_after n (c ∷ cs) some all small =
    let parts = both (is_ascii_digit c) (all_ascii_digits cs) all in
    let m : ℕ = n * 10 + digit_value c in
    let value = digit_is c parts.0 in
    let over = digit_over c parts.0 in
    let front : m / 10 ≡ n = omega (arith, value, over) in
    let end : 48 + m % 10 ≡ c = omega (arith, value, over) in
    let one_more = decimal_step_wide m (omega arith) (omega (arith, le_value_after m cs, small)) in
    decimal_value_after m cs (omega arith) parts.1 small
    ∙ ap (λ (x : List ℕ). x ++ cs) (one_more ∙ (λ i. decimal (front i) ++ (end i ∷ [])))
    ∙ append_assoc (decimal n) (c ∷ []) cs

-- digits with no leading zero
pub decimal_value : (ds : List ℕ) → all_ascii_digits ds ≡ true → 0 < length ds → (get_or ds 0 0 ≡ 48 → length ds ≡ 1)
    → digits_value 10 ds < 10 ^ 64 → ds ≡ decimal (digits_value 10 ds)
decimal_value [] all some lead small = absurd (omega arith)
decimal_value (c ∷ []) all some lead small =
    let parts = both (is_ascii_digit c) true all in
    let value = digit_is c parts.0 in
    let over = digit_over c parts.0 in
    sym (decimal_digit (0 * 10 + digit_value c) (omega (arith, value, over)) ∙ ap (λ (x : ℕ). x ∷ []) (omega (arith, value, over)))
decimal_value (c ∷ e ∷ cs) all some lead small =
    let parts = both (is_ascii_digit c) (all_ascii_digits (e ∷ cs)) all in
    let value = digit_is c parts.0 in
    let over = digit_over c parts.0 in
    let no : c ≡ 48 → ⊥ = λ z. omega (arith, lead z) in
    let is : 48 + (0 * 10 + digit_value c) ≡ c = omega (arith, value, over) in
    sym (decimal_value_after (0 * 10 + digit_value c) (e ∷ cs) (omega (arith, value, over, no)) parts.1 small
    ∙ ap (λ (x : List ℕ). x ++ (e ∷ cs)) (decimal_digit (0 * 10 + digit_value c) (omega (arith, value, over)) ∙ ap (λ (x : ℕ). x ∷ []) is))

all_digits : (ds : List ℕ) → AllDigits 10 ds → all_ascii_digits ds ≡ true
all_digits [] all = refl
all_digits (c ∷ cs) all = and_from _ _ (below_ten c all.0) (all_digits cs all.1)
  where
    below_ten : (b : ℕ) → digit_value b < 10 → is_ascii_digit b ≡ true
    below_ten b small = grind (arith, nat_tests)

-- what a number's text shows
pub record IsNumberText (ds : List ℕ) (n : ℕ) : Type 0 where
  pub some : 0 < length ds
  pub digits : all_ascii_digits ds ≡ true
  pub value : digits_value 10 ds ≡ n
  pub lead : get_or ds 0 0 ≡ 48 → length ds ≡ 1

first_of : (xs ys : List ℕ) → 0 < length xs → get_or (xs ++ ys) 0 0 ≡ get_or xs 0 0
first_of [] ys some = absurd (omega arith)
first_of (x ∷ xs) ys some = refl

abbrev leads : (m : ℕ) (ds : List ℕ) → Type 0
leads m ds = (0 < length ds) × (get_or ds 0 0 ≡ 48 → length ds ≡ 1) × (0 < m → 48 < get_or ds 0 0)

pub number_text : (n : ℕ) (ds : List ℕ) → n < 10 ^ 64 → ds ≡ decimal n → IsNumberText ds n
number_text n ds small is =
    let numeral = decimal_is_IsNumeral_wide n small in
    let lead = decimal_by_steps_wide leads
    (λ m l. (omega arith, λ e. refl, λ a. omega arith))
    (λ m xs l h. (
      omega (arith, length-append xs ((48 + m % 10) ∷ [])),
      λ e. absurd (omega (arith, e, first_of xs ((48 + m % 10) ∷ []) h.0, h.2 (omega arith))),
      λ a. omega (arith, first_of xs ((48 + m % 10) ∷ []) h.0, h.2 (omega arith)),
    )) n small in
    subst (λ (xs : List ℕ). IsNumberText xs n) (sym is)
    (record { some = numeral.0.0; digits = all_digits (decimal n) numeral.0.1; value = numeral.1; lead = lead.1 })

abbrev SameDigits : ℕ → List ℕ → Type 0
SameDigits i ds = all_ascii_digits (drop i ds) ≡ all_ascii_digits ds

module _ (ds : List ℕ) (i n : ℕ) (small : n < 10 ^ 64) (within : i < length ds) (digits : SameDigits i ds) (is : ds ≡ decimal n) where
  text : IsNumberText ds n
  text = number_text n ds small is

  next_digit : is_ascii_digit (get_or ds i 0) ≡ true
  next_digit = (both _ _ (sym (at_drop_more all_ascii_digits ds i 0 within) ∙ digits ∙ text.digits)).0

  -- a number's text has no byte that is no digit
  pub no_other_byte : false ≡ is_ascii_digit (get_or ds i 0) → ⊥
  no_other_byte other = absurd (cc (next_digit, other))

  -- with one digit more the value is at most the number
  pub at_most_value : (value : ℕ) → digits_value_after 10 value (drop i ds) ≡ digits_value 10 ds → value * 10 + (get_or ds i 0 - 48) ≤ n
  at_most_value value whole =
      let digit = digit_is (get_or ds i 0) next_digit in
      let next = at_drop_more (digits_value_after 10 value) ds i 0 within in
      let low = le_value_after (value * 10 + digit_value (get_or ds i 0)) (drop (i + 1) ds) in
      omega (arith, digit, next, low, whole, text.value)

-- no number's text begins with a minus
no_minus : (n : ℕ) (ds : List ℕ) → n < 10 ^ 64 → 45 ∷ ds ≡ decimal n → ⊥
no_minus n ds small is = absurd (cc (refl_minus, (number_text n (45 ∷ ds) small is).digits))
  where
    refl_minus : all_ascii_digits (45 ∷ ds) ≡ false
    refl_minus = refl

-- no digits stand behind a minus but those of the magnitude, which isn't 0
pub no_negative : (ds : List ℕ) (limit : ℕ) → limit ≤ 10 ^ 64 → ((n : ℕ) → 0 < n → n < limit → ds ≡ decimal n → ⊥)
    → (z : ℤ) → unsigned_abs z < limit → 45 ∷ ds ≡ signed_decimal z → ⊥
no_negative ds limit small other (pos n) below is = no_minus n ds (omega (arith, below, small)) is
no_negative ds limit small other (negsuc n) below is =
    other (suc n) (omega arith) (omega (arith, below)) (ap (λ (bytes : List ℕ). drop 1 bytes) is)

-- a text is that of one number
pub one_number : (m n : ℕ) {ds : List ℕ} → m < 10 ^ 64 → n < 10 ^ 64 → ds ≡ decimal m → ds ≡ decimal n → m ≡ n
one_number m n {ds} small other is same = sym (number_text m ds small is).value ∙ (number_text n ds other same).value

pub one_signed : (y z : ℤ) {word : List ℕ} → unsigned_abs y < 10 ^ 64 → unsigned_abs z < 10 ^ 64 → word ≡ signed_decimal y
    → word ≡ signed_decimal z → y ≡ z
one_signed (pos m) (pos n) small other is same = ap pos (one_number m n (omega (arith, small)) (omega (arith, other)) is same)
one_signed (pos m) (negsuc n) small other is same = absurd (no_minus m (decimal (suc n)) (omega (arith, small)) (sym same ∙ is))
one_signed (negsuc m) (pos n) small other is same = absurd (no_minus n (decimal (suc m)) (omega (arith, other)) (sym is ∙ same))
one_signed (negsuc m) (negsuc n) small other is same =
    let rest : decimal (suc m) ≡ decimal (suc n) = ap (λ (bytes : List ℕ). drop 1 bytes) (sym is ∙ same) in
    let next : suc m ≡ suc n = one_number (suc m) (suc n) (omega (arith, small)) (omega (arith, other)) refl rest in
    ap negsuc (omega (arith, next))

-- a number's text isn't empty

pub decimal_some : (n : ℕ) → n < 10 ^ 64 → 0 < length (decimal n)
decimal_some n small = (number_text n (decimal n) small refl).some

pub signed_some : (z : ℤ) → unsigned_abs z < 10 ^ 64 → 0 < length (signed_decimal z)
signed_some (pos n) small = decimal_some n (omega (arith, small))
signed_some (negsuc n) small = omega arith
