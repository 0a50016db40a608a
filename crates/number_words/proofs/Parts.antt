-- The sum of probabilities, none below 0, over a common denominator.
use Rattle.std.proofs.Common.{◌≡◌, ℕ, zero, suc, ◌+◌, ◌*◌, ◌/◌, ◌<◌, ◌≤◌, true, false, eqb, ℤ, pos, List, [], ◌∷◌, length, get_or, drop, refl, ap, sym, ◌∙◌, arith}
use Rattle.std.specs.Prelude.{All}
use Rattle.std.specs.Int.{◌∣◌}
use Rattle.std.specs.Ordering.{int_eq}
use Rattle.std.proofs.lemmas.Bool.{ne_eqb}
use Rattle.std.proofs.lemmas.Bool.Decides.{same_from_decides, Decides-eqb, Decides-int_eq}
use Rattle.std.proofs.lemmas.Int.{ints}
use Rattle.std.proofs.lemmas.List.{at_drop_more, at_drop_all}
use Rattle.std.proofs.Math.Nat.{div-mul_cancel, le_of_mul-le-mul_right, mul_comm}
use Rattle.number_words.specs.Number.{NumberView, signed}
use Rattle.number_words.specs.Chances.{common_denominator, sum_over, sum_to_one}

-- the same on magnitudes
abbrev pub parts_over : ℕ → List NumberView → ℕ
parts_over common [] = 0
parts_over common (prob ∷ probs) = prob.num * (common / prob.den) + parts_over common probs

pub signed_is : (prob : NumberView) → prob.negative ≡ false → signed prob ≡ pos prob.num
signed_is prob plain = rw plain refl

sum_of_parts : (common : ℕ) (probs : List NumberView) → All (λ (prob : NumberView). prob.negative ≡ false) probs → sum_over common probs ≡ pos (parts_over common probs)
sum_of_parts common [] plain = refl
sum_of_parts common (prob ∷ probs) plain =
    let first : prob.negative ≡ false = plain 0 prob (omega arith) in
    let rest = sum_of_parts common probs (λ k d within. plain (suc k) d (omega arith)) in
    rw (signed_is prob first, rest) refl

pos_same : (a b : ℕ) → int_eq (pos a) (pos b) ≡ eqb a b
pos_same a b =
    let tests = Decides-int_eq (pos a) (pos b) in
    let back : int_eq (pos a) (pos b) ≡ true → a ≡ b = λ e. let same : pos a ≡ pos b = tests.0 e in omega (arith, ints) in
    same_from_decides (int_eq (pos a) (pos b)) (eqb a b) (back, λ e. tests.1 (ap pos e)) (Decides-eqb a b)

sum_is : (common : ℕ) (probs : List NumberView) → common ≡ common_denominator probs → All (λ (prob : NumberView). prob.negative ≡ false) probs → sum_to_one probs ≡ eqb (parts_over common probs) common
sum_is common probs is plain =
    let whole : sum_to_one probs ≡ int_eq (sum_over common probs) (pos common) = ap (λ (n : ℕ). int_eq (sum_over n probs) (pos n)) (sym is) in
    whole ∙ ap (λ (z : ℤ). int_eq z (pos common)) (sum_of_parts common probs plain) ∙ pos_same (parts_over common probs) common

-- one probability more
pub parts_more : (common : ℕ) (probs : List NumberView) (i : ℕ) (prob : NumberView) (total num den whole : ℕ) → i < length probs → prob ≡ get_or probs i prob → num ≡ prob.num → den ≡ prob.den
    → parts_over common (drop i probs) + total ≡ whole → parts_over common (drop (i + 1) probs) + (total + num * (common / den)) ≡ whole
parts_more common probs i prob total num den whole within is num_is den_is here =
    let more = at_drop_more (parts_over common) probs i prob within ∙ ap (λ (p : NumberView). parts_over common (p ∷ drop (i + 1) probs)) (sym is) in
    let part : num * (common / den) ≡ prob.num * (common / prob.den) = ap (λ (n : ℕ). n * (common / den)) num_is ∙ ap (λ (d : ℕ). prob.num * (common / d)) den_is in
    omega (arith, more, here, part)

-- a part of at most the whole is at most 1
pub at_most_one : (common num den : ℕ) → 0 < common → den ∣ common → num * (common / den) ≤ common → num ≤ den
at_most_one common num den some divides within =
    let whole = div-mul_cancel den divides in
    le_of_mul-le-mul_right {m = num} {n = den} {k = common / den} (omega (arith, whole, mul_comm den (common / den))) (quotient_some (common / den) den common whole some)
  where
    quotient_some : (q d c : ℕ) → q * d ≡ c → 0 < c → 0 < q
    quotient_some zero d c e some = absurd (omega (arith, e))
    quotient_some (suc q) d c e some = omega arith

-- all parts so far are over the whole, or they are all
pub sum_over_one : (common : ℕ) (probs : List NumberView) (left total : ℕ) → common ≡ common_denominator probs → All (λ (prob : NumberView). prob.negative ≡ false) probs → left + total ≡ parts_over common probs → common < total → false ≡ sum_to_one probs
sum_over_one common probs left total is plain here over = sym (sum_is common probs is plain ∙ ne_eqb (parts_over common probs) common (λ e. absurd (omega (arith, here, over, e))))

pub sum_whole : (common : ℕ) (probs : List NumberView) (i total : ℕ) → common ≡ common_denominator probs → All (λ (prob : NumberView). prob.negative ≡ false) probs → length probs ≤ i
    → parts_over common (drop i probs) + total ≡ parts_over common probs → eqb total common ≡ sum_to_one probs
sum_whole common probs i total is plain over here =
    let none : parts_over common (drop i probs) ≡ 0 = at_drop_all (parts_over common) probs i over in
    let whole : total ≡ parts_over common probs = omega (arith, none, here) in
    ap (λ (n : ℕ). eqb n common) whole ∙ sym (sum_is common probs is plain)
