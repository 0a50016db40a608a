-- The remainder of a difference, by natural numbers alone.
use Rattle.std.proofs.Common.{◌≡◌, ℕ, ◌+◌, ◌-◌, ◌*◌, ◌%◌, ◌<◌, ◌≤◌, pos, ◌+ℤ◌, ◌-ℤ◌, unsigned_abs, refl, ap, arith}
use Rattle.std.proofs.lemmas.Int.{ints, int_rem_euclid_is}
use Rattle.residues.specs.Remainder.{remainder}

pub less_product : (a b c p : ℕ) → 0 < p → b ≤ p → remainder (pos a -ℤ pos (b * c)) p ≡ (a + (p - b) * c) % p
less_product a b c p some below =
    let whole : b + (p - b) ≡ p = omega arith in
    let given : (b + (p - b)) * c ≡ p * c = ap (λ x. x * c) whole in
    let sum : pos a -ℤ pos (b * c) +ℤ pos (c * p) ≡ pos (a + (p - b) * c) = omega (arith, ints) in
    ap unsigned_abs (int_rem_euclid_is (pos a -ℤ pos (b * c)) (pos p) p c (a + (p - b) * c) some refl sum)
