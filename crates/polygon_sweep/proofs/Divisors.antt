-- A common divisor of two numbers, one of which isn't 0, is above 0 and no larger than the larger of the two; what both leave
-- after division by it shares no factor.
use Rattle.std.proofs.Common.{◌≡◌, ℕ, ◌*◌, ◌<◌, ◌≤◌, ℤ, pos, ◌*ℤ◌, ◌<ℤ◌, unsigned_abs, zero, suc, refl, ap, sym, ◌∙◌, arith}
use Rattle.std.specs.Int.{IsGcd}
use Rattle.std.specs.Prelude.{int_div}
use Rattle.std.proofs.Math.Nat.{le_of_dvd, pos_of_dvd_of_pos, mul_comm}
use Rattle.std.proofs.lemmas.Int.{ints, unsigned_abs-mul}
use Rattle.corr_num.proofs.CommonDivisors.{IsGcd-divided}
use Rattle.corr_num.proofs.ExactQuotients.{quotient_back, quotient_magnitude}

pub gcd_below : (a b g m : ℕ) → IsGcd a b g → (a ≡ 0 → b ≡ 0 → ⊥) → a < m → b < m → (0 < g) × (g < m)
gcd_below zero zero g m h some small low = absurd (some refl refl)
gcd_below zero (suc b) g m h some small low = (pos_of_dvd_of_pos h.1 (omega arith), omega (arith, le_of_dvd (omega arith) h.1))
gcd_below (suc a) b g m h some small low = (pos_of_dvd_of_pos h.0 (omega arith), omega (arith, le_of_dvd (omega arith) h.0))

-- the parts left: no larger than before, and coprime
pub record AreReduced (a b g x y : ℤ) : Type 0 where
  pub a_small : unsigned_abs x ≤ unsigned_abs a
  pub b_small : unsigned_abs y ≤ unsigned_abs b
  pub coprime : IsGcd (unsigned_abs x) (unsigned_abs y) 1
  pub a_back : x *ℤ g ≡ a
  pub b_back : y *ℤ g ≡ b

pub reduced : (a b g x y : ℤ) → pos 0 <ℤ g → IsGcd (unsigned_abs a) (unsigned_abs b) (unsigned_abs g) → x ≡ int_div a g → y ≡ int_div b g → AreReduced a b g x y
reduced a b g x y above divisor a_is b_is =
    let a_back : x *ℤ g ≡ a = rw a_is (quotient_back a g above divisor.0) in
    let b_back : y *ℤ g ≡ b = rw b_is (quotient_back b g above divisor.1) in
    let a_whole : unsigned_abs a ≡ unsigned_abs x * unsigned_abs g = ap unsigned_abs (sym a_back) ∙ unsigned_abs-mul x g in
    let b_whole : unsigned_abs b ≡ unsigned_abs y * unsigned_abs g = ap unsigned_abs (sym b_back) ∙ unsigned_abs-mul y g in
    record {
      a_back = a_back;
      b_back = b_back;
      a_small = rw a_is (quotient_magnitude a g above);
      b_small = rw b_is (quotient_magnitude b g above);
      coprime = IsGcd-divided (unsigned_abs a) (unsigned_abs b) (unsigned_abs g) (unsigned_abs x) (unsigned_abs y) (omega (arith, ints)) divisor (a_whole ∙ mul_comm _ _) (b_whole ∙ mul_comm _ _);
    }
