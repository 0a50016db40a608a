-- Division by a positive number: where it leaves nothing over, division toward zero gives the quotient. Both parts of an
-- integer, above and below 0, are divided alone.
use Rattle.std.proofs.Common.{◌≡◌, ℕ, ◌*◌, ◌/◌, ◌≤◌, zero, suc, ℤ, pos, negsuc, ◌*ℤ◌, neg_ℤ, ap, sym, ◌∙◌, arith}
use Rattle.std.specs.Prelude.{int_div, unsigned_abs, ◌<ℤ◌}
use Rattle.std.proofs.Math.Nat.{div-le_self, div-mul_cancel, mul-div_cancel}
use Rattle.std.specs.Int.{◌∣◌}
use Rattle.std.proofs.lemmas.Int.{ints}
use borrow.Author.Differences.{up, down, quot_is, product_is, same_in}
use Rattle.exact_algebra.proofs.RingLaws.{neg_ℤ-*ℤ}
use Rattle.corr_num.specs.Quotient.{IsQuotient}

part_exact : (n k q : ℕ) → n ≡ q * suc k → n / suc k ≡ q
part_exact n k q e = ap (λ (m : ℕ). m / suc k) e ∙ mul-div_cancel q (omega arith)

pub quotient_exact : (n d q : ℤ) → pos 0 <ℤ d → IsQuotient n d q → int_div n d ≡ q
quotient_exact n (pos zero) q p e = absurd (omega (arith, ints))
quotient_exact n (negsuc k) q p e = absurd (omega (arith, ints))
quotient_exact n (pos (suc k)) q p e =
    let parts = product_is q (pos (suc k)) in
    let above = part_exact (up n) k (up q) (sym (ap up e) ∙ parts.0 ∙ omega arith) in
    let below = part_exact (down n) k (down q) (sym (ap down e) ∙ parts.1 ∙ omega arith) in
    let is = quot_is n (suc k) in
    same_in (int_div n (pos (suc k))) q (omega (arith, above, below, is))

pub quotient_magnitude : (n d : ℤ) → pos 0 <ℤ d → unsigned_abs (int_div n d) ≤ unsigned_abs n
quotient_magnitude (pos n) (pos k) p = omega (arith, div-le_self n k)
quotient_magnitude (negsuc n) (pos k) p = omega (arith, ints, div-le_self (suc n) k)
quotient_magnitude n (negsuc k) p = absurd (omega (arith, ints))

-- a divisor of the magnitude leaves nothing over
part_back : (n : ℤ) (k : ℕ) → k ∣ unsigned_abs n → int_div n (pos k) *ℤ pos k ≡ n
part_back (pos n) k h = ap pos (div-mul_cancel k h)
part_back (negsuc n) k h = neg_ℤ-*ℤ (pos (suc n / k)) (pos k) ∙ ap (λ (m : ℕ). neg_ℤ (pos m)) (div-mul_cancel k h)

pub quotient_back : (n d : ℤ) → pos 0 <ℤ d → unsigned_abs d ∣ unsigned_abs n → int_div n d *ℤ d ≡ n
quotient_back n (pos k) p h = part_back n k h
quotient_back n (negsuc k) p h = absurd (omega (arith, ints))
