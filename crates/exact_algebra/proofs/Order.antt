-- Order of products in ℤ. A product of two numbers that are not negative is a natural number; the rest follows from it at
-- differences, where the products are multiplied out.
use Rattle.std.proofs.Common.{◌≡◌, ◌≢◌, zero, suc, ℤ, pos, negsuc, ◌-ℤ◌, ◌*ℤ◌, neg_ℤ, ◌≤ℤ◌, ◌<ℤ◌, ◌⊎◌, inl, inr, ⊎_elim, refl, sym, ap, ◌∙◌, arith}
use Rattle.std.proofs.lemmas.Int.{ints, by_lt_z}
use Rattle.exact_algebra.proofs.RingLaws.{*ℤ-zero, neg_ℤ-*ℤ}
use Rattle.exact_algebra.proofs.RingTactic.{ring_laws, linear}

-- ---- which way two numbers stand
pub at_most_or_above : (a b : ℤ) → (a ≤ℤ b) ⊎ (b <ℤ a)
at_most_or_above a b = by_lt_z b a inr inl

pub below_or_at_least : (a b : ℤ) → (a <ℤ b) ⊎ (b ≤ℤ a)
below_or_at_least a b = by_lt_z a b inl inr

pub data Sign (a : ℤ) : Type 0 where
  negative : a <ℤ pos 0 → Sign a
  nothing : a ≡ pos 0 → Sign a
  positive : pos 0 <ℤ a → Sign a

pub sign : (a : ℤ) → Sign a
sign (pos zero) = nothing refl
sign (pos (suc n)) = positive (omega (arith, ints))
sign (negsuc n) = negative (omega (arith, ints))

pub difference_not_negative : {a b : ℤ} → a ≤ℤ b → pos 0 ≤ℤ (b -ℤ a)
difference_not_negative h = omega (arith, ints)

pub difference_positive : {a b : ℤ} → a <ℤ b → pos 0 <ℤ (b -ℤ a)
difference_positive h = omega (arith, ints)

-- ---- signs of products
not_negative_of : (a b : ℤ) → pos 0 ≤ℤ a → pos 0 ≤ℤ b → pos 0 ≤ℤ (a *ℤ b)
not_negative_of (pos m) (pos n) h k = omega (arith, ints)
not_negative_of (pos m) (negsuc n) h k = absurd (omega (arith, ints))
not_negative_of (negsuc m) b h k = absurd (omega (arith, ints))

pub product_not_negative : {a b : ℤ} → pos 0 ≤ℤ a → pos 0 ≤ℤ b → pos 0 ≤ℤ (a *ℤ b)
product_not_negative {a} {b} h k = not_negative_of a b h k

positive_of : (a b : ℤ) → pos 0 <ℤ a → pos 0 <ℤ b → pos 0 <ℤ (a *ℤ b)
positive_of (pos zero) b h k = absurd (omega (arith, ints))
positive_of (pos (suc m)) (pos zero) h k = absurd (omega (arith, ints))
positive_of (pos (suc m)) (pos (suc n)) h k = omega (arith, ints)
positive_of (pos (suc m)) (negsuc n) h k = absurd (omega (arith, ints))
positive_of (negsuc m) b h k = absurd (omega (arith, ints))

pub product_positive : {a b : ℤ} → pos 0 <ℤ a → pos 0 <ℤ b → pos 0 <ℤ (a *ℤ b)
product_positive {a} {b} h k = positive_of a b h k

pub product_not_positive : {a b : ℤ} → pos 0 ≤ℤ a → b ≤ℤ pos 0 → (a *ℤ b) ≤ℤ pos 0
product_not_positive {a} {b} h k =
    let opposite : pos 0 ≤ℤ neg_ℤ b = omega (arith, ints) in
    let product = simp ring_laws at (product_not_negative h opposite) in
    omega (arith, linear)

pub product_negative : {a b : ℤ} → pos 0 <ℤ a → b <ℤ pos 0 → (a *ℤ b) <ℤ pos 0
product_negative {a} {b} h k =
    let opposite : pos 0 <ℤ neg_ℤ b = omega (arith, ints) in
    let product = simp ring_laws at (product_positive h opposite) in
    omega (arith, linear)

pub product_of_not_positive : {a b : ℤ} → a ≤ℤ pos 0 → b ≤ℤ pos 0 → pos 0 ≤ℤ (a *ℤ b)
product_of_not_positive {a} {b} h k =
    let first : pos 0 ≤ℤ neg_ℤ a = omega (arith, ints) in
    let second : pos 0 ≤ℤ neg_ℤ b = omega (arith, ints) in
    simp ring_laws at (product_not_negative first second)

pub product_of_negative : {a b : ℤ} → a <ℤ pos 0 → b <ℤ pos 0 → pos 0 <ℤ (a *ℤ b)
product_of_negative {a} {b} h k =
    let first : pos 0 <ℤ neg_ℤ a = omega (arith, ints) in
    let second : pos 0 <ℤ neg_ℤ b = omega (arith, ints) in
    simp ring_laws at (product_positive first second)

-- ---- both sides times a number
pub times_at_most : {a b : ℤ} (c : ℤ) → pos 0 ≤ℤ c → a ≤ℤ b → (c *ℤ a) ≤ℤ (c *ℤ b)
times_at_most {a} {b} c h k =
    let product = simp ring_laws at (product_not_negative h (difference_not_negative k)) in
    simp ring_laws (omega (arith, linear))

pub times_below : {a b : ℤ} (c : ℤ) → pos 0 <ℤ c → a <ℤ b → (c *ℤ a) <ℤ (c *ℤ b)
times_below {a} {b} c h k =
    let product = simp ring_laws at (product_positive h (difference_positive k)) in
    simp ring_laws (omega (arith, linear))

pub times_not_positive : {a b : ℤ} (c : ℤ) → c ≤ℤ pos 0 → a ≤ℤ b → (c *ℤ b) ≤ℤ (c *ℤ a)
times_not_positive {a} {b} c h k =
    let opposite : pos 0 ≤ℤ neg_ℤ c = omega (arith, ints) in
    let product = simp ring_laws at (product_not_negative opposite (difference_not_negative k)) in
    simp ring_laws (omega (arith, linear))

pub products_at_most : {a b c d : ℤ} → pos 0 ≤ℤ a → a ≤ℤ b → pos 0 ≤ℤ c → c ≤ℤ d → (a *ℤ c) ≤ℤ (b *ℤ d)
products_at_most {a} {b} {c} {d} h k l m =
    let low = times_at_most a h m in
    let above : pos 0 ≤ℤ d = omega (arith, ints) in
    let high = simp ring_laws at (product_not_negative above (difference_not_negative k)) in
    omega (arith, linear)

-- ---- a factor taken away
pub cancel_at_most : {a b : ℤ} (c : ℤ) → pos 0 <ℤ c → (c *ℤ a) ≤ℤ (c *ℤ b) → a ≤ℤ b
cancel_at_most {a} {b} c h k = ⊎_elim (λ l. l) (λ l. let m = times_below c h l in omega (arith, linear)) (at_most_or_above a b)

pub cancel_below : {a b : ℤ} (c : ℤ) → pos 0 ≤ℤ c → (c *ℤ a) <ℤ (c *ℤ b) → a <ℤ b
cancel_below {a} {b} c h k = ⊎_elim (λ l. l) (λ l. let m = times_at_most c h l in omega (arith, linear)) (below_or_at_least a b)

pub cancel_positive : {a b : ℤ} (c : ℤ) → pos 0 <ℤ c → c *ℤ a ≡ c *ℤ b → a ≡ b
cancel_positive {a} {b} c h e =
    let up : a ≤ℤ b = cancel_at_most c h (omega (arith, linear)) in
    let down : b ≤ℤ a = cancel_at_most c h (omega (arith, linear)) in
    omega (arith, ints)

pub cancel : {a b : ℤ} (c : ℤ) → c ≢ pos 0 → c *ℤ a ≡ c *ℤ b → a ≡ b
cancel {a} {b} c h e = by (sign c)
  where
    by : Sign c → a ≡ b
    by (negative l) = cancel_positive (neg_ℤ c) (omega (arith, ints)) (simp neg_ℤ-*ℤ (ap neg_ℤ e))
    by (nothing z) = absurd (h z)
    by (positive l) = cancel_positive c l e

-- A product is 0 only where a factor is.
pub no_zero_divisors : (a b : ℤ) → a *ℤ b ≡ pos 0 → (a ≡ pos 0) ⊎ (b ≡ pos 0)
no_zero_divisors a b e = by (sign a)
  where
    other : a ≢ pos 0 → b ≡ pos 0
    other h = cancel a h (e ∙ sym (*ℤ-zero a))

    by : Sign a → (a ≡ pos 0) ⊎ (b ≡ pos 0)
    by (negative l) = inr (other (λ z. omega (arith, ints)))
    by (nothing z) = inl z
    by (positive l) = inr (other (λ z. omega (arith, ints)))

-- ---- the sign of a factor from that of the product
pub factor_not_negative : {b : ℤ} (a : ℤ) → pos 0 <ℤ a → pos 0 ≤ℤ (a *ℤ b) → pos 0 ≤ℤ b
factor_not_negative a h k = cancel_at_most a h (rw (*ℤ-zero a) k)

pub factor_positive : {b : ℤ} (a : ℤ) → pos 0 ≤ℤ a → pos 0 <ℤ (a *ℤ b) → pos 0 <ℤ b
factor_positive a h k = cancel_below a h (rw (*ℤ-zero a) k)

pub factor_not_positive : {b : ℤ} (a : ℤ) → pos 0 <ℤ a → (a *ℤ b) ≤ℤ pos 0 → b ≤ℤ pos 0
factor_not_positive a h k = cancel_at_most a h (rw (*ℤ-zero a) k)

pub factor_negative : {b : ℤ} (a : ℤ) → pos 0 ≤ℤ a → (a *ℤ b) <ℤ pos 0 → b <ℤ pos 0
factor_negative a h k = cancel_below a h (rw (*ℤ-zero a) k)

-- ---- squares
pub square_not_negative : (a : ℤ) → pos 0 ≤ℤ (a *ℤ a)
square_not_negative a = by (sign a)
  where
    by : Sign a → pos 0 ≤ℤ (a *ℤ a)
    by (negative l) = let h : a ≤ℤ pos 0 = omega (arith, ints) in product_of_not_positive h h
    by (nothing z) = let h : pos 0 ≤ℤ a = omega (arith, ints) in product_not_negative h h
    by (positive l) = let h : pos 0 ≤ℤ a = omega (arith, ints) in product_not_negative h h

pub square_positive : (a : ℤ) → a ≢ pos 0 → pos 0 <ℤ (a *ℤ a)
square_positive a n = by (sign a)
  where
    by : Sign a → pos 0 <ℤ (a *ℤ a)
    by (negative l) = product_of_negative l l
    by (nothing z) = absurd (n z)
    by (positive l) = product_positive l l

pub square_nothing : (a : ℤ) → a *ℤ a ≡ pos 0 → a ≡ pos 0
square_nothing a e = ⊎_elim (λ z. z) (λ z. z) (no_zero_divisors a a e)
