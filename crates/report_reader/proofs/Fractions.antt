-- The text of a fraction in lowest terms is the one from which it was read: no other numerator and denominator are reduced to
-- its own ones with the same denominator.
use Rattle.std.proofs.Common.{◌≡◌, ℕ, zero, suc, ◌^◌, ◌<◌, ◌≤◌, ℤ, pos, ◌*ℤ◌, ◌≤ℤ◌, ◌<ℤ◌, unsigned_abs}
use Rattle.std.proofs.Common.{List, [], ◌∷◌, ◌++◌, length, take, drop, refl, sym, ap, ap₂, subst, ◌∙◌, append_assoc, arith}
use Rattle.std.specs.Fmt.{decimal, signed_decimal}
use Rattle.std.proofs.lemmas.Int.{ints}
use Rattle.exact_algebra.proofs.Order.{cancel_positive}
use Rattle.corr_num.specs.Fraction.{Fraction, IsReduced}
use Rattle.report_text.specs.PartText.{frac_text, quotient_text}
use Rattle.report_text.proofs.Fractions.{whole_text, parts_text}
use Rattle.report_reader.proofs.Numerals.{one_signed}

one_only : (d : ℤ) → pos 0 <ℤ d → unsigned_abs d ≤ 1 → d ≡ pos 1
one_only d some small = omega (arith, ints)

times_one : (a n d : ℤ) → a *ℤ pos 1 ≡ n *ℤ d → d ≡ pos 1 → a ≡ n
times_one a n d same one = let e : a *ℤ pos 1 ≡ n *ℤ pos 1 = subst (λ (x : ℤ). a *ℤ pos 1 ≡ n *ℤ x) one same in omega (arith, ints, e)

-- a whole number
pub whole_frac : (n : ℤ) (f : Fraction) → IsReduced f (record { num = n; den = pos 1 }) → signed_decimal n ≡ frac_text f
whole_frac n f r =
    let one = one_only f.den r.lowest.positive r.den_bound in
    ap signed_decimal (sym (times_one f.num n f.den r.same one)) ∙ sym (whole_text f one)

-- a numerator over a denominator, by the bits of the denominator
pub quotient_frac : (n d : ℤ) (f : Fraction) → IsReduced f (record { num = n; den = d }) → f.den ≡ d → pos 2 ≤ℤ d
    → signed_decimal n ++ 47 ∷ signed_decimal d ≡ frac_text f
unfolding quotient_text
quotient_frac n d f r same large =
    let products : f.num *ℤ d ≡ n *ℤ d = subst (λ (e : ℤ). f.num *ℤ d ≡ n *ℤ e) same r.same in
    let num : f.num ≡ n = cancel_positive d (omega (arith, ints, large)) (omega (arith, ints, products)) in
    let whole : quotient_text f.num f.den ≡ signed_decimal n ++ 47 ∷ signed_decimal d =
    ap₂ (λ (a b : ℤ). quotient_text a b) num same ∙ append_assoc (signed_decimal n) (47 ∷ []) (signed_decimal d) in
    sym (parts_text f (λ one. absurd (omega (arith, ints, large, same, one))) ∙ whole)

-- a list with nothing behind its front is the front
pub no_rest : (n : ℕ) (xs : List ℕ) → length (drop n xs) < 1 → xs ≡ take n xs
no_rest zero [] none = refl
no_rest zero (x ∷ xs) none = absurd (omega (arith, none))
no_rest (suc n) [] none = refl
no_rest (suc n) (x ∷ xs) none = ap (λ (l : List ℕ). x ∷ l) (no_rest n xs none)

pub parts_are : (n d : ℤ) → quotient_text n d ≡ signed_decimal n ++ 47 ∷ signed_decimal d
unfolding quotient_text
parts_are n d = append_assoc (signed_decimal n) (47 ∷ []) (signed_decimal d)

-- a denominator by its text
pub denominator_is : (d : ℤ) (size : ℕ) (digits : List ℕ) → pos 0 <ℤ d → unsigned_abs d < 2 ^ 126 → size < 2 ^ 126 → digits ≡ decimal size
    → digits ≡ signed_decimal d → d ≡ pos size
denominator_is d size digits some small fits is same = one_signed d (pos size) (omega (arith, small)) (omega (arith, fits)) same is

pub small_one : (d : ℤ) (size : ℕ) → pos 0 <ℤ d → d ≡ pos size → size < 2 → d ≡ pos 1
small_one d size some is small = omega (arith, ints, some, is, small)
