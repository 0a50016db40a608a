-- Numbers in a text: two texts that begin with numbers, and go on with no digit, agree in the numbers and in what is behind them.
use Rattle.std.proofs.Common.{◌≡◌, ◌⊎◌, inl, inr, ℕ, suc, ◌<◌, ◌≤◌, ◌^◌, ℤ, pos, negsuc, Bool, true, false, List, [], ◌∷◌, ◌++◌, codes}
use Rattle.std.proofs.Common.{drop, get_or, length, refl, sym, ap, ◌∙◌, append_assoc, arith}
use Rattle.std.proofs.lemmas.Bool.{false≢true}
use Rattle.std.proofs.lemmas.Bool.Decides.{Decides-int_eq}
use Rattle.std.proofs.lemmas.Fmt.{decimal_is_IsNumeral_wide}
use Rattle.std.proofs.lemmas.Str.Parse.{digit_from_value}
use Rattle.std.specs.Bool.{Decides}
use Rattle.std.specs.Fmt.{decimal, signed_decimal}
use Rattle.std.specs.Ordering.{int_eq}
use Rattle.std.specs.Prelude.{unsigned_abs}
use Rattle.std.specs.Str.Parse.{AllDigits, digits_value}
use Rattle.corr_num.specs.Fraction.{Fraction}
use Rattle.report_form.specs.Ranges.{IsPayoff}
use Rattle.report_text.proofs.Fractions.{parts_text, whole_text}
use Rattle.report_text.specs.PartText.{frac_text, quotient_text}

digits_split : (xs ys a b : List ℕ) → AllDigits 10 xs → AllDigits 10 ys → get_or a 0 0 ≤ 47 → get_or b 0 0 ≤ 47
    → xs ++ a ≡ ys ++ b → (xs ≡ ys) × (a ≡ b)
digits_split [] [] a b x y low under e = (refl, e)
digits_split [] (byte ∷ ys) a b x y low under e =
    let first : get_or a 0 0 ≡ byte = ap (λ (bs : List ℕ). get_or bs 0 0) e in
    absurd (omega (arith, low, first, (digit_from_value byte y.0).0))
digits_split (byte ∷ xs) [] a b x y low under e =
    let first : byte ≡ get_or b 0 0 = ap (λ (bs : List ℕ). get_or bs 0 0) e in
    absurd (omega (arith, under, first, (digit_from_value byte x.0).0))
digits_split (byte ∷ xs) (other ∷ ys) a b x y low under e =
    let first : byte ≡ other = cc e in
    let behind : xs ++ a ≡ ys ++ b = cc e in
    let rest = digits_split xs ys a b x.1 y.1 low under behind in
    (cc (first, rest.0), rest.1)

pub naturals_split : (m n : ℕ) (a b : List ℕ) → m < 10 ^ 64 → n < 10 ^ 64 → get_or a 0 0 ≤ 47 → get_or b 0 0 ≤ 47
    → decimal m ++ a ≡ decimal n ++ b → (m ≡ n) × (a ≡ b)
naturals_split m n a b small little low under e =
    let first = decimal_is_IsNumeral_wide m small in
    let second = decimal_is_IsNumeral_wide n little in
    let parts = digits_split (decimal m) (decimal n) a b first.0.1 second.0.1 low under e in
    (sym first.1 ∙ ap (λ (ds : List ℕ). digits_value 10 ds) parts.0 ∙ second.1, parts.1)

first_digit : (ds a : List ℕ) → 0 < length ds → AllDigits 10 ds → 48 ≤ get_or (ds ++ a) 0 0
first_digit [] a some digits = absurd (omega (arith, some))
first_digit (d ∷ ds) a some digits = (digit_from_value d digits.0).0

pub decimal_first : (n : ℕ) (a : List ℕ) → n < 10 ^ 64 → 48 ≤ get_or (decimal n ++ a) 0 0
decimal_first n a small =
    let numeral = decimal_is_IsNumeral_wide n small in
    first_digit (decimal n) a numeral.0.0 numeral.0.1

first_below : (ds a : List ℕ) → 0 < length ds → AllDigits 10 ds → get_or (ds ++ a) 0 0 ≤ 57
first_below [] a some digits = absurd (omega (arith, some))
first_below (d ∷ ds) a some digits = (digit_from_value d digits.0).1

pub decimal_below : (n : ℕ) (a : List ℕ) → n < 10 ^ 64 → get_or (decimal n ++ a) 0 0 ≤ 57
decimal_below n a small =
    let numeral = decimal_is_IsNumeral_wide n small in
    first_below (decimal n) a numeral.0.0 numeral.0.1

pub integers_split : (y z : ℤ) (a b : List ℕ) → unsigned_abs y < 10 ^ 64 → unsigned_abs z < 10 ^ 64 → get_or a 0 0 ≤ 47
    → get_or b 0 0 ≤ 47 → signed_decimal y ++ a ≡ signed_decimal z ++ b → (y ≡ z) × (a ≡ b)
integers_split (pos m) (pos n) a b small little low under e =
    let parts = naturals_split m n a b small little low under e in
    (ap pos parts.0, parts.1)
integers_split (pos m) (negsuc n) a b small little low under e =
    let first : get_or (decimal m ++ a) 0 0 ≡ 45 = ap (λ (bs : List ℕ). get_or bs 0 0) e in
    absurd (omega (arith, first, decimal_first m a small))
integers_split (negsuc m) (pos n) a b small little low under e =
    let first : 45 ≡ get_or (decimal n ++ b) 0 0 = ap (λ (bs : List ℕ). get_or bs 0 0) e in
    absurd (omega (arith, first, decimal_first n b little))
integers_split (negsuc m) (negsuc n) a b small little low under e =
    let parts = naturals_split (suc m) (suc n) a b small little low under (ap (drop 1) e) in
    let same : m ≡ n = cc parts.0 in
    (ap negsuc same, parts.1)

-- a fraction whose denominator is 1, or another
by_test : {P : Type 0} (test : Bool) → Decides test P → P ⊎ (P → ⊥)
by_test true d = inl (d.0 refl)
by_test false d = inr (λ p. absurd (false≢true (d.1 p)))

is_whole : (f : Fraction) → (f.den ≡ pos 1) ⊎ (f.den ≡ pos 1 → ⊥)
is_whole f = by_test (int_eq f.den (pos 1)) (Decides-int_eq f.den (pos 1))

same_fraction : (f g : Fraction) → f.num ≡ g.num → f.den ≡ g.den → f ≡ g
same_fraction f g num den = ap (λ (n : ℤ). record { num = n; den = f.den }) num ∙ ap (λ (d : ℤ). record { num = g.num; den = d }) den

quotient_behind : (num den : ℤ) (a : List ℕ) → quotient_text num den ++ a ≡ signed_decimal num ++ (codes "/" ++ (signed_decimal den ++ a))
unfolding quotient_text
quotient_behind num den a =
    append_assoc (signed_decimal num ++ codes "/") (signed_decimal den) a
    ∙ append_assoc (signed_decimal num) (codes "/") (signed_decimal den ++ a)

wide_enough : (n : ℕ) → n < 2 ^ 126 → n < 10 ^ 64
wide_enough n h = omega (arith, h)

pub fractions_split : (f g : Fraction) (a b : List ℕ) → IsPayoff f → IsPayoff g → get_or a 0 0 ≤ 32 → get_or b 0 0 ≤ 32
    → frac_text f ++ a ≡ frac_text g ++ b → (f ≡ g) × (a ≡ b)
fractions_split f g a b x y low under e = elim (is_whole f) [
  | inl first ↦ elim (is_whole g) [
    | inl second ↦
        let texts : signed_decimal f.num ++ a ≡ signed_decimal g.num ++ b =
        ap (λ (t : List ℕ). t ++ a) (sym (whole_text f first)) ∙ e ∙ ap (λ (t : List ℕ). t ++ b) (whole_text g second) in
        let parts = integers_split f.num g.num a b (wide_enough (unsigned_abs f.num) x.num) (wide_enough (unsigned_abs g.num) y.num)
        (omega (arith, low)) (omega (arith, under)) texts in
        (same_fraction f g parts.0 (first ∙ sym second), parts.1)
    | inr second ↦
        let texts : signed_decimal f.num ++ a ≡ signed_decimal g.num ++ (codes "/" ++ (signed_decimal g.den ++ b)) =
        ap (λ (t : List ℕ). t ++ a) (sym (whole_text f first)) ∙ e ∙ ap (λ (t : List ℕ). t ++ b) (parts_text g second)
        ∙ quotient_behind g.num g.den b in
        let parts = integers_split f.num g.num a (codes "/" ++ (signed_decimal g.den ++ b)) (wide_enough (unsigned_abs f.num) x.num)
        (wide_enough (unsigned_abs g.num) y.num) (omega (arith, low)) (omega arith) texts in
        let slash : get_or a 0 0 ≡ 47 = ap (λ (t : List ℕ). get_or t 0 0) parts.1 in
        absurd (omega (arith, low, slash))
  ]
  | inr first ↦ elim (is_whole g) [
    | inl second ↦
        let texts : signed_decimal f.num ++ (codes "/" ++ (signed_decimal f.den ++ a)) ≡ signed_decimal g.num ++ b =
        sym (quotient_behind f.num f.den a) ∙ ap (λ (t : List ℕ). t ++ a) (sym (parts_text f first)) ∙ e
        ∙ ap (λ (t : List ℕ). t ++ b) (whole_text g second) in
        let parts = integers_split f.num g.num (codes "/" ++ (signed_decimal f.den ++ a)) b (wide_enough (unsigned_abs f.num) x.num)
        (wide_enough (unsigned_abs g.num) y.num) (omega arith) (omega (arith, under)) texts in
        let slash : 47 ≡ get_or b 0 0 = ap (λ (t : List ℕ). get_or t 0 0) parts.1 in
        absurd (omega (arith, under, slash))
    | inr second ↦
        let texts : signed_decimal f.num ++ (codes "/" ++ (signed_decimal f.den ++ a))
        ≡ signed_decimal g.num ++ (codes "/" ++ (signed_decimal g.den ++ b)) =
        sym (quotient_behind f.num f.den a) ∙ ap (λ (t : List ℕ). t ++ a) (sym (parts_text f first)) ∙ e
        ∙ ap (λ (t : List ℕ). t ++ b) (parts_text g second) ∙ quotient_behind g.num g.den b in
        let nums = integers_split f.num g.num (codes "/" ++ (signed_decimal f.den ++ a)) (codes "/" ++ (signed_decimal g.den ++ b))
        (wide_enough (unsigned_abs f.num) x.num) (wide_enough (unsigned_abs g.num) y.num) (omega arith) (omega arith) texts in
        let dens = integers_split f.den g.den a b (wide_enough (unsigned_abs f.den) x.den) (wide_enough (unsigned_abs g.den) y.den)
        (omega (arith, low)) (omega (arith, under)) (ap (drop 1) nums.1) in
        (same_fraction f g nums.0 dens.0, dens.1)
  ]
]
