-- The least common multiple of denominators, one after the other.
use Rattle.std.proofs.Common.{◌≡◌, ℕ, zero, suc, ◌+◌, ◌*◌, ◌/◌, ◌^◌, ◌<◌, ◌≤◌, List, [], ◌∷◌, ◌++◌, length, get_or, take, inl, inr, refl, ap, sym, ◌∙◌, subst, arith}
use Rattle.std.specs.Prelude.{Option, Some, None, IfSome, nat_le}
use Rattle.std.specs.Bool.{then_some}
use Rattle.std.specs.Int.{◌∣◌}
use Rattle.std.proofs.Math.Nat.{div-mul_cancel, mul-div_cancel', mul-le-mul_left, mul_assoc, dvd-mul_left, dvd-mul_right}
use Rattle.std.proofs.lemmas.Bool.{cases_lt, lt-leb, le-leb}
use Rattle.std.proofs.lemmas.List.{take_more, take_all}
use Rattle.std.proofs.lemmas.Nat.Gcd.{le_of_dvd, dvd-zero, dvd_trans, dvd_refl}
use Rattle.number_words.specs.Number.{NumberView}
use Rattle.number_words.specs.Value.{common_divisor}
use Rattle.number_words.specs.Chances.{common_multiple, common_from, common_denominator, IsKept}
use Rattle.number_words.proofs.Divisors.{is_greatest}

-- it is no smaller than the number
pub le_multiple : (a b : ℕ) → 0 < b → a ≤ common_multiple a b
le_multiple a b some =
    let g = is_greatest a b some in
    let grows = mul-le-mul_left (a / common_divisor a b) (le_of_dvd some g.1) in
    omega (arith, grows, div-mul_cancel (common_divisor a b) g.0)

-- both divide it
times_zero : (q : ℕ) → 0 ≡ q * 0
times_zero q = omega arith

left_divides : (a b : ℕ) → a ∣ common_multiple a b
left_divides a zero = subst (λ (n : ℕ). a ∣ n) (times_zero (a / common_divisor a 0)) (dvd-zero a)
left_divides a (suc b) =
    let d = common_divisor a (suc b) in
    let g = is_greatest a (suc b) (omega arith) in
    let same : a * (suc b / d) ≡ a / d * suc b =
    ap (λ (n : ℕ). n * (suc b / d)) (sym (div-mul_cancel d g.0)) ∙ mul_assoc (a / d) d (suc b / d) ∙ ap (λ (n : ℕ). a / d * n) (mul-div_cancel' d g.1) in
    subst (λ (n : ℕ). a ∣ n) same (dvd-mul_right a (suc b / d))

start_divides : (common : ℕ) (probs : List NumberView) → common ∣ common_from common probs
start_divides common [] = dvd_refl common
start_divides common (prob ∷ probs) = dvd_trans common (left_divides common prob.den) (start_divides (common_multiple common prob.den) probs)

pub each_divides : (common : ℕ) (probs : List NumberView) (k : ℕ) (d : NumberView) → k < length probs → (get_or probs k d).den ∣ common_from common probs
each_divides common [] k d within = absurd (omega arith)
each_divides common (prob ∷ probs) zero d within =
    dvd_trans prob.den (dvd-mul_left prob.den (common / common_divisor common prob.den)) (start_divides (common_multiple common prob.den) probs)
each_divides common (prob ∷ probs) (suc k) d within = each_divides (common_multiple common prob.den) probs k d (omega arith)

common_push : (common : ℕ) (probs : List NumberView) (prob : NumberView) → common_from common (probs ++ prob ∷ []) ≡ common_multiple (common_from common probs) prob.den
common_push common [] prob = refl
common_push common (first ∷ probs) prob = common_push (common_multiple common first.den) probs prob

pub common_more : (probs : List NumberView) (i : ℕ) (prob : NumberView) (kept : Option ℕ) (den : ℕ) → i < length probs → prob ≡ get_or probs i prob → den ≡ prob.den
    → IsKept kept (common_multiple (common_denominator (take i probs)) den) → IsKept kept (common_denominator (take (i + 1) probs))
common_more probs i prob kept den within is den_is here =
    let whole : common_denominator (take (i + 1) probs) ≡ common_multiple (common_denominator (take i probs)) den =
    ap common_denominator (take_more probs i prob within ∙ ap (λ (p : NumberView). take i probs ++ p ∷ []) (sym is))
    ∙ common_push 1 (take i probs) prob ∙ ap (λ (n : ℕ). common_multiple (common_denominator (take i probs)) n) (sym den_is) in
    subst (λ (n : ℕ). IsKept kept n) (sym whole) here

pub common_all : (probs : List NumberView) (i : ℕ) (kept : Option ℕ) → length probs ≤ i → IsKept kept (common_denominator (take i probs)) → IsKept kept (common_denominator probs)
common_all probs i kept over here = subst (λ (ps : List NumberView). IsKept kept (common_denominator ps)) (take_all i probs over) here

pub kept_within : (kept : Option ℕ) (whole : ℕ) → IsKept kept whole → IfSome kept (λ (common : ℕ). (0 < common) × (common ≤ 2 ^ 40))
kept_within None whole over = tt
kept_within (Some common) whole here = (here.1, here.2)

pub none_multiple : (whole den : ℕ) → 0 < den → 2 ^ 40 < whole → 2 ^ 40 < common_multiple whole den
none_multiple whole den some over = omega (arith, le_multiple whole den some)

pub kept_multiple : (common whole den multiple : ℕ) → common ≡ whole → 0 < common → 0 < den → multiple ≡ common_multiple common den → IsKept (then_some (nat_le multiple (2 ^ 40)) multiple) (common_multiple whole den)
kept_multiple common whole den multiple is positive some m_is =
    let whole_is : multiple ≡ common_multiple whole den = m_is ∙ ap (λ (n : ℕ). common_multiple n den) is in
    elim (cases_lt (2 ^ 40) multiple) [
      | inl over ↦ rw (lt-leb multiple (2 ^ 40) over) (omega (arith, whole_is, over))
      | inr within ↦ rw (le-leb multiple (2 ^ 40) within) (whole_is, omega (arith, m_is, positive, le_multiple common den some), within)
    ]
