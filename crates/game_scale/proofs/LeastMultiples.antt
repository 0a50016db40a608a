-- The least common multiple of two numbers is one of them, divided by their greatest common divisor, times the other:
-- what is left of the two shares no factor.
use Rattle.std.proofs.Common.{◌≡◌, ℕ, zero, suc, ◌*◌, ◌/◌, ◌<◌, ◌≤◌, sym, subst, arith}
use Rattle.std.specs.Int.{IsGcd, ◌∣◌}
use Rattle.std.proofs.Math.Nat.{mul_comm, mul-dvd-mul_left, mul-div_cancel', dvd_of_mul-dvd-mul_left, dvd-mul_left, dvd-mul_right, pos_of_dvd_of_pos}
use Rattle.std.proofs.lemmas.Nat.Gcd.{IsGcd-swap, dvd-zero, le_of_dvd}
use Rattle.corr_num.proofs.CommonDivisors.{IsGcd-divided, dvd_of_coprime}
use Rattle.game_scale.specs.LeastMultiple.{IsLcm}

coprime_part : (x y t : ℕ) → IsGcd x y 1 → x ∣ t * y → x ∣ t
coprime_part x y zero h d = dvd-zero x
coprime_part x y (suc t) h d = dvd_of_coprime y x (suc t) (omega arith) (IsGcd-swap x y 1 h) d

turned : (g x y : ℕ) → (g * x) * y ≡ x * (g * y)
turned g x y = omega arith

inner : (g y t : ℕ) → (g * y) * t ≡ g * (t * y)
inner g y t = omega arith

-- a number that both divide, as b times t
others : (g x y t : ℕ) → 0 < g → IsGcd x y 1 → g * x ∣ (g * y) * t → x * (g * y) ∣ (g * y) * t
others g x y t some apart p =
    let both : g * x ∣ g * (t * y) = subst (λ (m : ℕ). g * x ∣ m) (inner g y t) p in
    let part : x ∣ t = coprime_part x y t apart (dvd_of_mul-dvd-mul_left x some both) in
    subst (λ (m : ℕ). m ∣ (g * y) * t) (mul_comm (g * y) x) (mul-dvd-mul_left x (g * y) part)

lcm_of_parts : (g x y : ℕ) → 0 < g → IsGcd x y 1 → IsLcm (g * x) (g * y) (x * (g * y))
lcm_of_parts g x y some apart = (
  subst (λ (m : ℕ). g * x ∣ m) (turned g x y) (dvd-mul_right (g * x) y),
  dvd-mul_left (g * y) x,
  λ k p q.
      let times : (g * y) * (k / (g * y)) ≡ k = mul-div_cancel' (g * y) q in
      subst (λ (m : ℕ). x * (g * y) ∣ m) times (others g x y (k / (g * y)) some apart (subst (λ (m : ℕ). g * x ∣ m) (sym times) p)),
)

pub lcm_is : (a b g : ℕ) → 0 < g → IsGcd a b g → IsLcm a b (a / g * b)
lcm_is a b g some h =
    let left : g * (a / g) ≡ a = mul-div_cancel' g h.0 in
    let right : g * (b / g) ≡ b = mul-div_cancel' g h.1 in
    let apart : IsGcd (a / g) (b / g) 1 = IsGcd-divided a b g (a / g) (b / g) some h (sym left) (sym right) in
    let parts : IsLcm (g * (a / g)) (g * (b / g)) (a / g * (g * (b / g))) = lcm_of_parts g (a / g) (b / g) some apart in
    let first : IsLcm a (g * (b / g)) (a / g * (g * (b / g))) = subst (λ (m : ℕ). IsLcm m (g * (b / g)) (a / g * (g * (b / g)))) left parts in
    subst (λ (m : ℕ). IsLcm a m (a / g * m)) right first

pub gcd_some : (a b g : ℕ) → 0 < b → IsGcd a b g → 0 < g
gcd_some a b g some h = pos_of_dvd_of_pos h.1 some

product_some : (a b : ℕ) → 0 < a → 0 < b → 0 < a * b
product_some zero b p q = absurd (omega arith)
product_some (suc a) b p q = omega arith

pub multiple_some : (a b m : ℕ) → 0 < a → 0 < b → IsLcm a b m → 0 < m
multiple_some a b m p q h =
    let within : m ∣ a * b = h.2 (a * b) (dvd-mul_right a b) (dvd-mul_left b a) in
    pos_of_dvd_of_pos within (product_some a b p q)

pub lcm_least : (a b m k : ℕ) → IsLcm a b m → 1 ≤ k → a ∣ k → b ∣ k → m ≤ k
lcm_least a b m k h some p q = le_of_dvd (omega arith) (h.2 k p q)
