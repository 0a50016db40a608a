-- An edge leads from one point to another that pays as much along a direction and more along its left turn. Both are corners with
-- their payoffs over a denominator above 0, and are compared by multiplying across. The step between them is the left turn times a
-- number above 0: its signs are those of the left turn.
use Rattle.std.proofs.Common.{◌≡◌, ◌⊎◌, inl, inr, ℤ, pos, ◌+ℤ◌, ◌-ℤ◌, ◌*ℤ◌, ◌<ℤ◌, ◌≤ℤ◌, unsigned_abs, sym, ap, ◌∙◌, arith}
use Rattle.std.specs.Int.{IsGcd}
use Rattle.std.proofs.lemmas.Int.{ints}
use Rattle.exact_algebra.proofs.Order.{at_most_or_above, cancel, factor_negative, factor_positive, product_negative, product_positive, square_not_negative, square_nothing}
use Rattle.exact_algebra.proofs.RingLaws.{*ℤ-zero}
use Rattle.exact_algebra.proofs.RingTactic.{ring_laws, linear}
use Rattle.polygon_sweep.proofs.Axes.{not_nothing}

-- ---- a step (x, y) that is level along (a, b)

-- (a, b) times its square length and the step
step_one : (a b x y : ℤ) → a *ℤ x +ℤ b *ℤ y ≡ pos 0 → (a *ℤ a +ℤ b *ℤ b) *ℤ x ≡ pos 0 -ℤ b *ℤ (a *ℤ y -ℤ b *ℤ x)
step_one a b x y level =
    let none : a *ℤ (a *ℤ x +ℤ b *ℤ y) ≡ pos 0 = ap (λ e. a *ℤ e) level ∙ *ℤ-zero a in
    let given = simp ring_laws at none in
    simp ring_laws (omega (arith, linear))

step_two : (a b x y : ℤ) → a *ℤ x +ℤ b *ℤ y ≡ pos 0 → (a *ℤ a +ℤ b *ℤ b) *ℤ y ≡ a *ℤ (a *ℤ y -ℤ b *ℤ x)
step_two a b x y level =
    let none : b *ℤ (a *ℤ x +ℤ b *ℤ y) ≡ pos 0 = ap (λ e. b *ℤ e) level ∙ *ℤ-zero b in
    let given = simp ring_laws at none in
    simp ring_laws (omega (arith, linear))

pub square_length : (a b : ℤ) → IsGcd (unsigned_abs a) (unsigned_abs b) 1 → pos 0 <ℤ (a *ℤ a +ℤ b *ℤ b)
square_length a b coprime = by (at_most_or_above (a *ℤ a +ℤ b *ℤ b) (pos 0))
  where
    by : ((a *ℤ a +ℤ b *ℤ b) ≤ℤ pos 0) ⊎ (pos 0 <ℤ (a *ℤ a +ℤ b *ℤ b)) → pos 0 <ℤ (a *ℤ a +ℤ b *ℤ b)
    by (inr above) = above
    by (inl none) =
        let first = square_not_negative a in
        let second = square_not_negative b in
        let a_0 = square_nothing a (let level : a *ℤ a ≡ pos 0 = omega (arith, linear) in level) in
        let b_0 = square_nothing b (let level : b *ℤ b ≡ pos 0 = omega (arith, linear) in level) in
        absurd (not_nothing a b coprime a_0 b_0)

opposite : (p q : ℤ) → p ≡ pos 0 -ℤ q → q <ℤ pos 0 → pos 0 <ℤ p
opposite p q is low = omega (arith, ints)

opposite_too : (p q : ℤ) → p ≡ pos 0 -ℤ q → pos 0 <ℤ q → p <ℤ pos 0
opposite_too p q is high = omega (arith, ints)

factor_nothing : (n x : ℤ) → pos 0 <ℤ n → n *ℤ x ≡ pos 0 → x ≡ pos 0
factor_nothing n x over none = cancel n (λ e. omega (arith, ints)) (none ∙ sym (*ℤ-zero n))

negative_times : (b g : ℤ) → b <ℤ pos 0 → pos 0 <ℤ g → (b *ℤ g) <ℤ pos 0
negative_times b g low high = let product = product_negative high low in omega (arith, ints)

module _ (a b x y : ℤ) (coprime : IsGcd (unsigned_abs a) (unsigned_abs b) 1) (level : a *ℤ x +ℤ b *ℤ y ≡ pos 0) where
  weak_length : pos 0 ≤ℤ (a *ℤ a +ℤ b *ℤ b)
  weak_length = let over = square_length a b coprime in omega (arith, linear)

  -- where it is level along the left turn too, it is no step
  pub no_step : a *ℤ y -ℤ b *ℤ x ≡ pos 0 → (x ≡ pos 0) × (y ≡ pos 0)
  no_step none =
      let over = square_length a b coprime in
      let first = step_one a b x y level ∙ (ap (λ e. pos 0 -ℤ b *ℤ e) none ∙ ap (λ e. pos 0 -ℤ e) (*ℤ-zero b)) in
      let second = step_two a b x y level ∙ (ap (λ e. a *ℤ e) none ∙ *ℤ-zero a) in
      (factor_nothing (a *ℤ a +ℤ b *ℤ b) x over first, factor_nothing (a *ℤ a +ℤ b *ℤ b) y over second)

  module _ (more : pos 0 <ℤ (a *ℤ y -ℤ b *ℤ x)) where
    -- below the first axis the step leads to the right
    pub step_right : b <ℤ pos 0 → pos 0 <ℤ x
    step_right below =
        factor_positive _ weak_length (opposite _ _ (step_one a b x y level) (negative_times b (a *ℤ y -ℤ b *ℤ x) below more))

    -- above it to the left
    pub step_left : pos 0 <ℤ b → x <ℤ pos 0
    step_left above = factor_negative _ weak_length (opposite_too _ _ (step_one a b x y level) (product_positive above more))

    -- and in the direction opposite to it down
    pub step_down : b ≡ pos 0 → a <ℤ pos 0 → (x ≡ pos 0) × (y <ℤ pos 0)
    step_down none below =
        let over = square_length a b coprime in
        let still = step_one a b x y level ∙ rw none (omega (arith, ints)) in
        let falls = negative_times a (a *ℤ y -ℤ b *ℤ x) below more in
        (factor_nothing (a *ℤ a +ℤ b *ℤ b) x over still, factor_negative _ weak_length (rw (step_two a b x y level) falls))
