-- A scale makes a fraction in lowest terms whole where the denominator divides it, since the denominator shares no factor
-- with the numerator; the whole number is then the numerator times what is left of the scale. The same scales make equal
-- fractions whole, with the same whole numbers.
use Rattle.std.proofs.Common.{◌≡◌, ℕ, ◌*◌, ◌/◌, ◌≤◌, ℤ, pos, ◌*ℤ◌, ◌<ℤ◌, sym, ap, subst, ◌∙◌, arith}
use Rattle.std.specs.Prelude.{unsigned_abs}
use Rattle.std.specs.Int.{◌∣◌}
use Rattle.std.proofs.Math.Nat.{div-mul_cancel, dvd-mul_left, le-mul_of_pos_right, mul_comm}
use Rattle.std.proofs.lemmas.Int.{ints, unsigned_abs-mul}
use Rattle.exact_algebra.proofs.RingLaws.{*ℤ_comm}
use Rattle.exact_algebra.proofs.RingTactic.{ring_laws, linear}
use Rattle.exact_algebra.proofs.Fractions.{fraction_trans_same}
use Rattle.exact_algebra.proofs.Order.{cancel_positive, factor_positive}
use Rattle.corr_num.specs.Fraction.{Fraction, IsLowest, IsSameNumber}
use Rattle.corr_num.proofs.CommonDivisors.{dvd_of_coprime}
use Rattle.game_scale.specs.Scales.{IsTimes, MakesWhole}

-- the denominator divides a scale that makes the fraction whole
pub den_divides : (f : Fraction) (scale : ℤ) → IsLowest f → pos 0 <ℤ scale → MakesWhole scale f → unsigned_abs f.den ∣ unsigned_abs scale
den_divides f scale lowest some (whole, is) =
    let across : unsigned_abs whole * unsigned_abs f.den ≡ unsigned_abs f.num * unsigned_abs scale = sym (unsigned_abs-mul whole f.den) ∙ ap unsigned_abs is ∙ unsigned_abs-mul f.num scale in
    let turned : unsigned_abs whole * unsigned_abs f.den ≡ unsigned_abs scale * unsigned_abs f.num = across ∙ mul_comm (unsigned_abs f.num) (unsigned_abs scale) in
    let divides : unsigned_abs f.den ∣ unsigned_abs scale * unsigned_abs f.num = subst (λ (n : ℕ). unsigned_abs f.den ∣ n) turned (dvd-mul_left (unsigned_abs f.den) (unsigned_abs whole)) in
    dvd_of_coprime (unsigned_abs f.num) (unsigned_abs f.den) (unsigned_abs scale) (omega (arith, ints)) lowest.coprime divides

magnitude : (z : ℤ) → pos 0 <ℤ z → pos (unsigned_abs z) ≡ z
magnitude z h = omega (arith, ints)

-- what is left of a scale that the denominator divides
pub factor : (den scale : ℤ) → pos 0 <ℤ den → pos 0 <ℤ scale → unsigned_abs den ∣ unsigned_abs scale → (t : ℤ) × (t *ℤ den ≡ scale)
factor den scale p q h =
    let n = unsigned_abs scale / unsigned_abs den in
    let back : n * unsigned_abs den ≡ unsigned_abs scale = div-mul_cancel (unsigned_abs den) h in
    let whole : pos n *ℤ pos (unsigned_abs den) ≡ pos (unsigned_abs scale) = ap pos back in
    (pos n, subst (λ (d : ℤ). pos n *ℤ d ≡ scale) (magnitude den p) (whole ∙ magnitude scale q))

pub factor_times : (num den t scale : ℤ) → t *ℤ den ≡ scale → (num *ℤ t) *ℤ den ≡ num *ℤ scale
factor_times num den t scale e = rw (← e) (simp ring_laws (omega (arith, linear)))

-- a scale that the denominator divides makes the fraction whole
pub divided_whole : (f : Fraction) (scale : ℤ) → pos 0 <ℤ f.den → pos 0 <ℤ scale → unsigned_abs f.den ∣ unsigned_abs scale → MakesWhole scale f
divided_whole f scale p q h = let t = factor f.den scale p q h in (f.num *ℤ t.0, factor_times f.num f.den t.0 scale t.1)

more_times : (num den t a whole : ℤ) → whole *ℤ den ≡ num *ℤ a → (t *ℤ whole) *ℤ den ≡ num *ℤ (t *ℤ a)
more_times num den t a whole e =
    let both : t *ℤ (whole *ℤ den) ≡ t *ℤ (num *ℤ a) = ap (λ (z : ℤ). t *ℤ z) e in
    let given = simp ring_laws at both in
    simp ring_laws (omega (arith, linear))

-- a multiple of a scale makes whole what the scale does
pub multiple_whole : (f : Fraction) (a b : ℤ) → pos 0 <ℤ a → pos 0 <ℤ b → unsigned_abs a ∣ unsigned_abs b → MakesWhole a f → MakesWhole b f
multiple_whole f a b p q h (whole, is) =
    let t = factor a b p q h in
    (t.0 *ℤ whole, subst (λ (z : ℤ). (t.0 *ℤ whole) *ℤ f.den ≡ f.num *ℤ z) t.1 (more_times f.num f.den t.0 a whole is))

-- there is one whole number
pub times_unique : (f : Fraction) (scale a b : ℤ) → pos 0 <ℤ f.den → IsTimes scale f a → IsTimes scale f b → a ≡ b
times_unique f scale a b p e g = cancel_positive f.den p (*ℤ_comm f.den a ∙ e ∙ sym g ∙ *ℤ_comm b f.den)

-- equal fractions
pub times_same : (p q : Fraction) (scale whole : ℤ) → pos 0 <ℤ p.den → IsSameNumber p q → IsTimes scale p whole → IsTimes scale q whole
times_same p q scale whole some same is =
    fraction_trans_same whole scale p.num p.den q.num q.den (λ z. absurd (omega (arith, ints))) is same

pub whole_same : (p q : Fraction) (scale : ℤ) → pos 0 <ℤ p.den → IsSameNumber p q → MakesWhole scale p → MakesWhole scale q
whole_same p q scale some same (whole, is) = (whole, times_same p q scale whole some same is)

-- the whole number is no less than the numerator
pub at_least : (num t : ℤ) → pos 0 <ℤ t → unsigned_abs num ≤ unsigned_abs (num *ℤ t)
at_least num t h = rw (unsigned_abs-mul num t) (le-mul_of_pos_right (unsigned_abs num) (omega (arith, ints)))

pub factor_some : (den t scale : ℤ) → pos 0 <ℤ den → pos 0 <ℤ scale → t *ℤ den ≡ scale → pos 0 <ℤ t
factor_some den t scale p q e = factor_positive den (omega (arith, ints)) (subst (λ (z : ℤ). pos 0 <ℤ z) (sym e ∙ *ℤ_comm t den) q)

-- no whole number but the numerator times what is left of the scale
pub times_is : (f : Fraction) (scale whole t : ℤ) → pos 0 <ℤ f.den → t *ℤ f.den ≡ scale → IsTimes scale f whole → whole ≡ f.num *ℤ t
times_is f scale whole t p e is = times_unique f scale whole (f.num *ℤ t) p is (factor_times f.num f.den t scale e)

pub large : (f : Fraction) (scale whole : ℤ) → IsLowest f → pos 0 <ℤ scale → IsTimes scale f whole → unsigned_abs f.num ≤ unsigned_abs whole
large f scale whole lowest some is =
    let t = factor f.den scale lowest.positive some (den_divides f scale lowest some (whole, is)) in
    rw (times_is f scale whole t.0 lowest.positive t.1 is) (at_least f.num t.0 (factor_some f.den t.0 scale lowest.positive some t.1))

-- a quotient that is exact gives what is left of the scale
pub quotient_left : (f : Fraction) (scale part : ℤ) → IsLowest f → pos 0 <ℤ scale → MakesWhole scale f → ((q : ℤ) → q *ℤ f.den ≡ scale → part ≡ q) → part *ℤ f.den ≡ scale
quotient_left f scale part lowest some whole exact =
    let t = factor f.den scale lowest.positive some (den_divides f scale lowest some whole) in
    subst (λ (z : ℤ). z *ℤ f.den ≡ scale) (sym (exact t.0 t.1)) t.1

pub scaled_amount : (f : Fraction) (scale part amount : ℤ) → part *ℤ f.den ≡ scale → amount ≡ f.num *ℤ part → IsTimes scale f amount
scaled_amount f scale part amount left is = subst (λ (z : ℤ). IsTimes scale f z) (sym is) (factor_times f.num f.den part scale left)
