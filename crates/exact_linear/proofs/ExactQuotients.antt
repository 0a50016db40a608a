-- Division of whole numbers that leaves nothing over, as a function: the quotient of magnitudes with the dividend's sign.
use Rattle.std.proofs.Common.{◌≡◌, zero, suc, ◌+◌, ◌*◌, ◌/◌, ◌<◌, ℤ, pos, negsuc, ◌*ℤ◌, ◌<ℤ◌, neg_ℤ, unsigned_abs, ap, arith}
use Rattle.std.proofs.Math.Nat.{mul-div_cancel}
use Rattle.std.proofs.lemmas.Int.{ints}

pub exact_quotient : ℤ → ℤ → ℤ
exact_quotient (pos a) d = pos (a / unsigned_abs d)
exact_quotient (negsuc a) d = neg_ℤ (pos (suc a / unsigned_abs d))

-- What was multiplied by a positive number comes back.
pub exact_quotient_is : (q d : ℤ) → pos 0 <ℤ d → exact_quotient (q *ℤ d) d ≡ q
unfolding exact_quotient
exact_quotient_is q (pos zero) over = absurd (omega (arith, ints))
exact_quotient_is q (negsuc d) over = absurd (omega (arith, ints))
exact_quotient_is (pos a) (pos (suc d)) over = let room : zero < suc d = omega arith in ap pos (mul-div_cancel a room)
exact_quotient_is (negsuc a) (pos (suc d)) over =
    let room : zero < suc d = omega arith in
    let product : negsuc a *ℤ pos (suc d) ≡ negsuc (d + a * suc d) = omega (arith, ints) in
    let whole : suc (d + a * suc d) ≡ suc a * suc d = omega arith in
    rw (product, whole) (ap (λ x. neg_ℤ (pos x)) (mul-div_cancel (suc a) room))
