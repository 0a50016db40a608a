-- Greatest common divisors of naturals: Euclid's remainders show that two numbers have one, so a common factor of both may be
-- taken out of it, and a number that divides a product and shares no factor with one side divides the other.
use Rattle.std.proofs.Common.{◌≡◌, ℕ, zero, suc, ◌*◌, ◌/◌, ◌%◌, ◌<◌, ◌≤◌, refl, sym, ap, subst, ◌∙◌, arith}
use Rattle.std.specs.Int.{IsGcd, ◌∣◌}
use Rattle.std.proofs.Math.Nat.{mul-one, mul-dvd-mul_left, mul-div_cancel', dvd_of_mul-dvd-mul_left, dvd-mul_left, dvd-mul_right, eq-one_of_dvd-one, one-dvd}
use Rattle.std.proofs.lemmas.Nat.{mod_below}
use Rattle.std.proofs.lemmas.Nat.Gcd.{IsGcd-from_zero, IsGcd-from_mod}

-- the fuel is not below the second number, which falls with each remainder
euclid : (fuel a b : ℕ) → b ≤ fuel → (g : ℕ) × IsGcd a b g
euclid zero a b h = (a, IsGcd-from_zero a b (omega arith))
euclid (suc fuel) a zero h = (a, IsGcd-from_zero a zero refl)
euclid (suc fuel) a (suc b) h =
    let rest = euclid fuel (suc b) (a % suc b) (omega (arith, mod_below a (suc b))) in
    (rest.0, IsGcd-from_mod a (suc b) rest.0 rest.1)

pub gcd_exists : (a b : ℕ) → (g : ℕ) × IsGcd a b g
gcd_exists a b = euclid b a b (omega arith)

pub IsGcd-scaled : (c a b : ℕ) → 0 < c → IsGcd a b 1 → IsGcd (c * a) (c * b) c
IsGcd-scaled c a b some h =
    let found = gcd_exists (c * a) (c * b) in
    let k = found.0 in
    let is = found.1 in
    let m = k / c in
    let split : c * m ≡ k = mul-div_cancel' c (is.2 c (dvd-mul_right c a) (dvd-mul_right c b)) in
    let left : c * m ∣ c * a = subst (λ (x : ℕ). x ∣ c * a) (sym split) is.0 in
    let right : c * m ∣ c * b = subst (λ (x : ℕ). x ∣ c * b) (sym split) is.1 in
    let one : m ≡ 1 = eq-one_of_dvd-one (h.2 m (dvd_of_mul-dvd-mul_left m some left) (dvd_of_mul-dvd-mul_left m some right)) in
    let whole : k ≡ c = sym split ∙ ap (λ x. c * x) one ∙ mul-one c in
    subst (λ (x : ℕ). IsGcd (c * a) (c * b) x) whole is

pub dvd_of_coprime : (a b c : ℕ) → 0 < c → IsGcd a b 1 → b ∣ c * a → b ∣ c
dvd_of_coprime a b c some h d = (IsGcd-scaled c a b some h).2 b d (dvd-mul_left b c)

-- what is left of two numbers where their greatest common divisor is taken out
pub IsGcd-divided : (a b g x y : ℕ) → 0 < g → IsGcd a b g → a ≡ g * x → b ≡ g * y → IsGcd x y 1
IsGcd-divided a b g x y some h e f =
    let shared : (d : ℕ) → d ∣ x → d ∣ y → g * d ∣ g = λ d p q. h.2 (g * d) (subst (λ (n : ℕ). g * d ∣ n) (sym e) (mul-dvd-mul_left d g p)) (subst (λ (n : ℕ). g * d ∣ n) (sym f) (mul-dvd-mul_left d g q)) in
    (one-dvd x, one-dvd y, λ d p q. dvd_of_mul-dvd-mul_left d some (subst (λ (n : ℕ). g * d ∣ n) (sym (mul-one g)) (shared d p q)))
