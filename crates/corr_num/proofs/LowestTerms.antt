-- A fraction in lowest terms is the only one of its number: each denominator divides the other, since it shares no factor
-- with its numerator. Division by the greatest common divisor leaves lowest terms.
use Rattle.std.proofs.Common.{◌≡◌, ◌↔◌, ℕ, ◌*◌, ◌<◌, ℤ, pos, ◌*ℤ◌, ◌<ℤ◌, ap, sym, ◌∙◌, subst, refl, arith}
use Rattle.std.specs.Prelude.{unsigned_abs}
use Rattle.std.specs.Int.{IsGcd, ◌∣◌}
use Rattle.std.proofs.Math.Nat.{mul_comm, dvd-mul_left, le-mul_of_pos_right}
use Rattle.std.proofs.lemmas.Int.{ints, unsigned_abs-mul}
use Rattle.std.proofs.lemmas.Nat.Gcd.{dvd_antisymm}
use Rattle.exact_algebra.proofs.RingLaws.{*ℤ_comm}
use Rattle.exact_algebra.proofs.RingTactic.{ring_laws, linear}
use Rattle.exact_algebra.proofs.Fractions.{fraction_trans_same}
use Rattle.exact_algebra.proofs.Order.{cancel_positive, factor_positive}
use Rattle.corr_num.specs.Fraction.{Fraction, IsSameNumber, IsLowest, IsReduced}
use Rattle.corr_num.proofs.CommonDivisors.{dvd_of_coprime, IsGcd-divided}

-- a denominator divides that of any other fraction of the same number
den_divides : (p q : Fraction) → IsLowest p → pos 0 <ℤ q.den → IsSameNumber p q → unsigned_abs p.den ∣ unsigned_abs q.den
den_divides p q l above s =
    let across : unsigned_abs p.num * unsigned_abs q.den ≡ unsigned_abs q.num * unsigned_abs p.den = sym (unsigned_abs-mul p.num q.den) ∙ ap unsigned_abs s ∙ unsigned_abs-mul q.num p.den in
    let turned : unsigned_abs q.den * unsigned_abs p.num ≡ unsigned_abs q.num * unsigned_abs p.den = mul_comm (unsigned_abs q.den) (unsigned_abs p.num) ∙ across in
    let divides = subst (λ (n : ℕ). unsigned_abs p.den ∣ n) (sym turned) (dvd-mul_left (unsigned_abs p.den) (unsigned_abs q.num)) in
    dvd_of_coprime (unsigned_abs p.num) (unsigned_abs p.den) (unsigned_abs q.den) (omega (arith, ints)) l.coprime divides

pub lowest_unique : (p q : Fraction) → IsLowest p → IsLowest q → IsSameNumber p q → p ≡ q
lowest_unique p q l m s =
    let same = dvd_antisymm (den_divides p q l m.positive s) (den_divides q p m l.positive (sym s)) in
    let p_above = l.positive in
    let q_above = m.positive in
    let dens : p.den ≡ q.den = omega (arith, ints) in
    let nums : p.num ≡ q.num = cancel_positive q.den q_above (*ℤ_comm q.den p.num ∙ s ∙ ap (λ d. q.num *ℤ d) dens ∙ *ℤ_comm q.num q.den) in
    λ i. record { num = nums i; den = dens i }

turned : (n d x y g : ℤ) → x *ℤ g ≡ n → y *ℤ g ≡ d → x *ℤ d ≡ n *ℤ y
turned n d x y g e f = rw (← e, ← f) (simp ring_laws (omega (arith, linear)))

pub divided_reduced : (p r : Fraction) (g : ℤ) → pos 0 <ℤ p.den → pos 0 <ℤ g → IsGcd (unsigned_abs p.num) (unsigned_abs p.den) (unsigned_abs g) → r.num *ℤ g ≡ p.num → r.den *ℤ g ≡ p.den → IsReduced r p
divided_reduced p r g above some h e f =
    let size : 0 < unsigned_abs g = omega (arith, ints) in
    let num_is : unsigned_abs p.num ≡ unsigned_abs r.num * unsigned_abs g = ap unsigned_abs (sym e) ∙ unsigned_abs-mul r.num g in
    let den_is : unsigned_abs p.den ≡ unsigned_abs r.den * unsigned_abs g = ap unsigned_abs (sym f) ∙ unsigned_abs-mul r.den g in
    record {
      same = turned p.num p.den r.num r.den g e f;
      lowest = record {
        positive = factor_positive g (omega (arith, ints)) (rw (*ℤ_comm g r.den, f) above);
        coprime = IsGcd-divided (unsigned_abs p.num) (unsigned_abs p.den) (unsigned_abs g) (unsigned_abs r.num) (unsigned_abs r.den) size h (num_is ∙ mul_comm _ _) (den_is ∙ mul_comm _ _);
      };
      num_bound = rw num_is (le-mul_of_pos_right (unsigned_abs r.num) size);
      den_bound = rw den_is (le-mul_of_pos_right (unsigned_abs r.den) size);
    }

pub same_number_is : (p q : Fraction) → IsLowest p → IsLowest q → (p ≡ q) ↔ IsSameNumber p q
same_number_is p q l m = (λ e. subst (λ (r : Fraction). IsSameNumber p r) e refl, lowest_unique p q l m)

through : (p q r s : Fraction) → pos 0 <ℤ p.den → pos 0 <ℤ q.den → IsSameNumber p r → IsSameNumber q s → IsSameNumber p q → IsSameNumber r s
through p q r s p_above q_above e f same =
    let middle = fraction_trans_same r.num r.den p.num p.den q.num q.den (λ z. absurd (omega (arith, ints))) (sym e) same in
    fraction_trans_same r.num r.den q.num q.den s.num s.den (λ z. absurd (omega (arith, ints))) middle f

-- fractions and their lowest terms are the same numbers
pub reduced_same : (p q r s : Fraction) → pos 0 <ℤ r.den → pos 0 <ℤ s.den → IsReduced p r → IsReduced q s → IsSameNumber p q ↔ IsSameNumber r s
reduced_same p q r s r_above s_above h k =
    (through p q r s h.lowest.positive k.lowest.positive h.same k.same, through r s p q r_above s_above (sym h.same) (sym k.same))
