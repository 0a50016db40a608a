-- The sizes of the factors in Euclid's algorithm: the factor of the lower remainder times the higher one, and the other
-- product, add up to the modulus at every step.
use Rattle.std.proofs.Common.{◌≡◌, ℕ, ◌+◌, ◌*◌, ◌/◌, ◌%◌, ◌<◌, ◌≤◌, sym, ap, arith}
use Rattle.std.proofs.lemmas.Nat.{div-add-mod', mod_below, mul-le, le-div}

-- two remainders one after the other, and the magnitudes of their factors
pub record AreFactors (modulus high low high_factor low_factor : ℕ) : Type 0 where
  pub falls : low < high
  pub some : 0 < low_factor
  pub whole : low_factor * high + high_factor * low ≡ modulus

pub first_factors : (modulus value : ℕ) → value < modulus → AreFactors modulus modulus value 0 1
first_factors modulus value below = record { falls = below; some = omega arith; whole = omega arith }

pub high_bound : (m high low f g : ℕ) → AreFactors m high low f g → high ≤ m
high_bound m high low f g is =
    let least : 1 * high ≤ g * high = mul-le 1 high g high is.some (omega arith) in
    omega (arith, is.whole)

pub factor_bound : (m high low f g : ℕ) → AreFactors m high low f g → g ≤ m
factor_bound m high low f g is =
    let some : 1 ≤ high = omega (arith, is.falls) in
    let least : g * 1 ≤ g * high = mul-le g 1 g high (omega arith) some in
    omega (arith, is.whole)

next_whole : (m high low f g q rest : ℕ) → high ≡ q * low + rest → g * high + f * low ≡ m
    → (f + q * g) * low + g * rest ≡ m
next_whole m high low f g q rest split whole =
    let given : g * high ≡ g * (q * low + rest) = ap (λ x. g * x) split in
    omega arith

at_least : (q g : ℕ) → 1 ≤ q → g ≤ q * g
at_least q g some = let least : 1 * g ≤ q * g = mul-le 1 g q g some (omega arith) in omega arith

pub next_factors : (m high low f g : ℕ) → 0 < low → AreFactors m high low f g
    → AreFactors m low (high % low) g (f + high / low * g)
next_factors m high low f g some is =
    let split : high ≡ high / low * low + high % low = sym (div-add-mod' high low) in
    let below : high % low < low = mod_below high low some in
    let once : 1 ≤ high / low = le-div 1 high low some (omega (arith, is.falls)) in
    let more : g ≤ high / low * g = at_least (high / low) g once in
    record {
      falls = below;
      some = omega (arith, is.some, more);
      whole = next_whole m high low f g (high / low) (high % low) split is.whole;
    }

pub next_factor_bound : (m high low f g : ℕ) → 0 < low → AreFactors m high low f g → f + high / low * g ≤ m
next_factor_bound m high low f g some is = factor_bound _ _ _ _ _ (next_factors m high low f g some is)
