-- A fraction's text in front of its slash and behind it: no number's text has a slash.
use Rattle.std.proofs.Common.{◌≡◌, ◌≢◌, ℕ, zero, suc, ◌+◌, ◌-◌, ◌^◌, ◌<◌, ℤ, pos, negsuc, ◌<ℤ◌, unsigned_abs, ◌⊎◌, inl, inr, true}
use Rattle.std.proofs.Common.{List, [], ◌∷◌, ◌++◌}
use Rattle.std.proofs.Common.{length, take, drop, refl, sym, ap, subst, ◌∙◌, append-nil, take_all, length-append, arith}
use Rattle.std.specs.Fmt.{decimal, signed_decimal}
use Rattle.std.specs.Str.{all_ascii_digits}
use Rattle.std.specs.Char.{is_ascii_digit}
use Rattle.std.proofs.lemmas.Bool.{ne_eqb}
use Rattle.std.proofs.lemmas.Int.{ints}
use Rattle.corr_num.specs.Fraction.{Fraction}
use Rattle.report_form.specs.Ranges.{IsPayoff}
use Rattle.report_text.specs.PartText.{frac_text}
use Rattle.report_text.proofs.Fractions.{whole_text, parts_text}
use Rattle.report_reader.specs.Reading.{slash_place}
use Rattle.report_reader.proofs.Numerals.{both, digit_over, number_text, signed_some}
use Rattle.report_reader.proofs.Fractions.{parts_are}

digits_slash : (ds rest : List ℕ) → all_ascii_digits ds ≡ true → slash_place (ds ++ rest) ≡ length ds + slash_place rest
digits_slash [] rest all = omega arith
digits_slash (c ∷ cs) rest all =
    let parts = both (is_ascii_digit c) (all_ascii_digits cs) all in
    let over = digit_over c parts.0 in
    let other = ne_eqb c 47 (λ e. absurd (omega (arith, e, over))) in
    rw other (omega (arith, digits_slash cs rest parts.1))

signed_slash : (z : ℤ) (rest : List ℕ) → unsigned_abs z < 10 ^ 64
    → slash_place (signed_decimal z ++ rest) ≡ length (signed_decimal z) + slash_place rest
signed_slash (pos n) rest small = digits_slash (decimal n) rest (number_text n (decimal n) (omega (arith, small)) refl).digits
signed_slash (negsuc n) rest small =
    omega (arith, digits_slash (decimal (suc n)) rest (number_text (suc n) (decimal (suc n)) (omega (arith, small)) refl).digits)

take_front : (xs ys : List ℕ) → take (length xs) (xs ++ ys) ≡ xs
take_front [] ys = refl
take_front (x ∷ xs) ys = ap (λ (l : List ℕ). x ∷ l) (take_front xs ys)

drop_front : (xs ys : List ℕ) → drop (length xs) (xs ++ ys) ≡ ys
drop_front [] ys = refl
drop_front (x ∷ xs) ys = drop_front xs ys

-- a word cut at its slash
record IsCut (word front back : List ℕ) : Type 0 where
  pub front_is : take (slash_place word) word ≡ front
  pub back_is : drop (slash_place word) word ≡ back

cut_at : (word front back : List ℕ) → word ≡ front ++ back → slash_place (front ++ back) ≡ length front → IsCut word front back
cut_at word front back is place =
    subst (λ (w : List ℕ). IsCut w front back) (sym is)
    (record { front_is = rw place (take_front front back); back_is = rw place (drop_front front back) })

one_or_other : (d : ℤ) → pos 0 <ℤ d → (d ≡ pos 1) ⊎ (d ≢ pos 1)
one_or_other (pos zero) some = absurd (omega (arith, ints, some))
one_or_other (pos (suc zero)) some = inl refl
one_or_other (pos (suc (suc n))) some = inr (λ e. absurd (omega (arith, ints, e)))
one_or_other (negsuc n) some = absurd (omega (arith, ints, some))

-- what stands behind the numerator
pub record IsFracCut (word : List ℕ) (f : Fraction) : Type 0 where
  pub num : take (slash_place word) word ≡ signed_decimal f.num
  pub den : (drop (slash_place word) word ≡ []) ⊎ ((f.den ≢ pos 1) × (drop (slash_place word) word ≡ 47 ∷ signed_decimal f.den))

pub frac_cut : (word : List ℕ) (f : Fraction) → IsPayoff f → word ≡ frac_text f → IsFracCut word f
frac_cut word f payoff is = elim (one_or_other f.den payoff.lowest.positive) [
  | inl one ↦
      let place = signed_slash f.num [] (omega (arith, payoff.num)) in
      let whole = is ∙ whole_text f one ∙ sym (append-nil (signed_decimal f.num)) in
      let cut = cut_at word (signed_decimal f.num) [] whole (omega (arith, place)) in
      record { num = cut.front_is; den = inl cut.back_is }
  | inr other ↦
      let place = signed_slash f.num (47 ∷ signed_decimal f.den) (omega (arith, payoff.num)) in
      let parts = is ∙ parts_text f other ∙ parts_are f.num f.den in
      let cut = cut_at word (signed_decimal f.num) (47 ∷ signed_decimal f.den) parts (omega (arith, place)) in
      record { num = cut.front_is; den = inr (other, cut.back_is) }
]

-- what stands behind the first byte
pub behind_first : (byte : ℕ) {bytes rest : List ℕ} → bytes ≡ byte ∷ rest → take (length bytes - 1) (drop 1 bytes) ≡ rest
behind_first byte {bytes} {rest} is =
    let long : length bytes ≡ length (byte ∷ rest) = ap (λ (l : List ℕ). length l) is in
    ap (λ (l : List ℕ). take (length bytes - 1) (drop 1 l)) is ∙ take_all (length bytes - 1) rest (omega (arith, long))

pub frac_some : (f : Fraction) → IsPayoff f → 0 < length (frac_text f)
frac_some f payoff = elim (one_or_other f.den payoff.lowest.positive) [
  | inl one ↦ omega (arith, ap (λ (l : List ℕ). length l) (whole_text f one), signed_some f.num (omega (arith, payoff.num)))
  | inr other ↦
      let parts = ap (λ (l : List ℕ). length l) (parts_text f other ∙ parts_are f.num f.den) in
      omega (arith, parts, length-append (signed_decimal f.num) (47 ∷ signed_decimal f.den))
]
