-- Fractions a / b with b above 0, compared by multiplying across: `a *ℤ d` against `c *ℤ b`. The middle fraction's
-- denominator is a factor of both sides, and is taken away.
use Rattle.std.proofs.Common.{◌≡◌, ◌≢◌, ℤ, pos, ◌*ℤ◌, ◌≤ℤ◌, ◌<ℤ◌, ap, arith}
use Rattle.std.proofs.lemmas.Int.{ints}
use Rattle.exact_algebra.proofs.Order.{times_at_most, times_below, cancel, cancel_at_most, cancel_below}
use Rattle.exact_algebra.proofs.RingTactic.{ring_laws, linear}

pub fraction_trans : (a b c d e f : ℤ) → pos 0 <ℤ b → pos 0 <ℤ d → pos 0 <ℤ f → (a *ℤ d) ≤ℤ (c *ℤ b) → (c *ℤ f) ≤ℤ (e *ℤ d) → (a *ℤ f) ≤ℤ (e *ℤ b)
fraction_trans a b c d e f over_b over_d over_f low high =
    let first = simp ring_laws at (times_at_most f (omega (arith, ints)) low) in
    let second = simp ring_laws at (times_at_most b (omega (arith, ints)) high) in
    cancel_at_most d over_d (simp ring_laws (omega (arith, linear)))

pub fraction_trans_below : (a b c d e f : ℤ) → pos 0 <ℤ b → pos 0 <ℤ d → pos 0 <ℤ f → (a *ℤ d) <ℤ (c *ℤ b) → (c *ℤ f) ≤ℤ (e *ℤ d) → (a *ℤ f) <ℤ (e *ℤ b)
fraction_trans_below a b c d e f over_b over_d over_f low high =
    let first = simp ring_laws at (times_below f over_f low) in
    let second = simp ring_laws at (times_at_most b (omega (arith, ints)) high) in
    cancel_below d (omega (arith, ints)) (simp ring_laws (omega (arith, linear)))

-- Three fractions of one value, where the middle denominator is not 0.
pub fraction_trans_same : (a b c d e f : ℤ) → d ≢ pos 0 → a *ℤ d ≡ c *ℤ b → c *ℤ f ≡ e *ℤ d → a *ℤ f ≡ e *ℤ b
fraction_trans_same a b c d e f over_d low high =
    let first = simp ring_laws at (ap (λ x. x *ℤ f) low) in
    let second = simp ring_laws at (ap (λ x. x *ℤ b) high) in
    cancel d over_d (simp ring_laws (omega (arith, linear)))
