-- The greatest common divisor is the greatest number that divides both; what is left of two numbers where it is taken out.
use Rattle.std.proofs.Common.{◌≡◌, ℕ, zero, suc, ◌*◌, ◌/◌, ◌%◌, ◌<◌, ◌≤◌, ◌&&◌, false, eqb, sym, inl, inr, subst, arith}
use Rattle.std.specs.Int.{IsGcd}
use Rattle.std.proofs.Math.Nat.{mul-div_cancel'}
use Rattle.std.proofs.lemmas.Bool.{cases_lt, and_parts, false_from_ne_true, eqb-true, eq-eqb}
use Rattle.std.proofs.lemmas.Nat.Gcd.{mod-eq-zero_of_dvd, dvd_of_mod-eq-zero, le_from_IsGcd, le_of_dvd}
use Rattle.corr_num.proofs.CommonDivisors.{gcd_exists, IsGcd-divided}
use Rattle.number_words.specs.Value.{common_divisor_to, common_divisor}

pub positive : (a b g : ℕ) → IsGcd a b g → 0 < b → 0 < g
positive a b zero h some = absurd (omega (arith, mod-eq-zero_of_dvd zero h.1))
positive a b (suc g) h some = omega arith

-- a number above it doesn't divide both
not_both : (k a b g : ℕ) → IsGcd a b g → 0 < g → g < suc k → (eqb (a % suc k) 0 && eqb (b % suc k) 0) ≡ false
not_both k a b g h some below =
    false_from_ne_true (eqb (a % suc k) 0 && eqb (b % suc k) 0) (λ e.
    let both = and_parts (eqb (a % suc k) 0) (eqb (b % suc k) 0) e in
    let left = dvd_of_mod-eq-zero (suc k) (eqb-true (a % suc k) 0 both.0) in
    let right = dvd_of_mod-eq-zero (suc k) (eqb-true (b % suc k) 0 both.1) in
    absurd (omega (arith, le_from_IsGcd a b g (suc k) h some left right)))

-- from any number that is not below it
found : (k a b g : ℕ) → IsGcd a b g → 0 < g → g ≤ k → common_divisor_to k a b ≡ g
unfolding common_divisor_to
found zero a b g h some within = absurd (omega arith)
found (suc k) a b g h some within =
    elim (cases_lt g (suc k)) [
      | inl below ↦ rw (not_both k a b g h some below) (found k a b g h some (omega arith))
      | inr above ↦
          let same : suc k ≡ g = omega arith in
          let left = eq-eqb (a % suc k) 0 (subst (λ (n : ℕ). a % n ≡ 0) (sym same) (mod-eq-zero_of_dvd g h.0)) in
          let right = eq-eqb (b % suc k) 0 (subst (λ (n : ℕ). b % n ≡ 0) (sym same) (mod-eq-zero_of_dvd g h.1)) in
          rw (left, right) same
    ]

pub greatest : (a b g : ℕ) → IsGcd a b g → 0 < b → g ≡ common_divisor a b
greatest a b g h some = sym (found b a b g h (positive a b g h some) (le_of_dvd some h.1))

-- the function gives the greatest common divisor
pub is_greatest : (a b : ℕ) → 0 < b → IsGcd a b (common_divisor a b)
is_greatest a b some = let g = gcd_exists a b in subst (λ (n : ℕ). IsGcd a b n) (greatest a b g.0 g.1 some) g.1

not_null : (g q b : ℕ) → g * q ≡ b → 0 < b → 0 < q
not_null g zero b e some = absurd (omega (arith, e))
not_null g (suc q) b e some = omega arith

pub lowest_left : (a b g : ℕ) → IsGcd a b g → 0 < b → IsGcd (a / g) (b / g) 1
lowest_left a b g h some = IsGcd-divided a b g (a / g) (b / g) (positive a b g h some) h (sym (mul-div_cancel' g h.0)) (sym (mul-div_cancel' g h.1))

pub positive_left : (a b g : ℕ) → IsGcd a b g → 0 < b → 0 < b / g
positive_left a b g h some = not_null g (b / g) b (mul-div_cancel' g h.1) some
