-- Euclid's algorithm with factors: each remainder is its factor times the value, up to multiples of the modulus.
use Rattle.std.proofs.Common.{◌≡◌, ℕ, ◌+◌, ◌-◌, ◌*◌, ◌/◌, ◌%◌, ◌<◌, ◌≤◌, sym, ◌∙◌, ap, arith}
use Rattle.std.proofs.Math.Nat.{add-mod, add-mul-mod_self_left}
use Rattle.std.proofs.lemmas.Nat.{mul-mod_first, mul-mod_second, div-add-mod', mod_below}

-- a remainder of the algorithm is its factor times the value
pub record IsTimes (modulus value rest factor : ℕ) : Type 0 where
  pub below : factor < modulus
  pub times : (factor * value) % modulus ≡ rest % modulus

same_sum : (a b x y k m : ℕ) → a % m ≡ x % m → b % m ≡ y % m → (a + k * b) % m ≡ (x + k * y) % m
same_sum a b x y k m p q =
    cc (add-mod a (k * b) m, add-mod x (k * y) m, mul-mod_second k b m, mul-mod_second k y m)

split_is : (m high low q rest : ℕ) → q ≤ m → high ≡ q * low + rest → high + (m - q) * low ≡ rest + m * low
split_is m high low q rest b e =
    let whole : q + (m - q) ≡ m = omega arith in
    let given : (q + (m - q)) * low ≡ m * low = ap (λ x. x * low) whole in
    omega arith

pub next_is_times : (m v high low f g : ℕ) → 0 < m → high / low ≤ m → IsTimes m v high f → IsTimes m v low g
    → IsTimes m v (high % low) ((f + (m - high / low) * g) % m)
next_is_times m v high low f g some b first second =
    let q = high / low in
    let apart : (f + (m - q) * g) * v ≡ f * v + (m - q) * (g * v) = omega arith in
    let sum : (f * v + (m - q) * (g * v)) % m ≡ (high + (m - q) * low) % m
    = same_sum _ _ _ _ (m - q) m first.times second.times in
    let split : high + (m - q) * low ≡ high % low + m * low = split_is m high low q (high % low) b (sym (div-add-mod' high low)) in
    record {
      below = mod_below _ m some;
      times = mul-mod_first _ v m ∙ ap (λ x. x % m) apart ∙ sum ∙ ap (λ x. x % m) split ∙ add-mul-mod_self_left _ m low;
    }
