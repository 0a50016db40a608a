-- Areas and inner products of vectors in the plane. Measured along a vector w, two others have
-- (w w) (x y) = (w x) (w y) + [w x] [w y] and (w w) [x y] = (w x) [w y] - [w x] (w y).
use Rattle.std.proofs.Common.{◌≡◌, ◌⊎◌, inl, inr, zero, suc, refl, ◌∙◌, ℤ, pos, negsuc, ◌+ℤ◌, ◌-ℤ◌, ◌*ℤ◌, ◌<ℤ◌, ◌≤ℤ◌, arith}
use Rattle.std.proofs.lemmas.Int.{ints}
use Rattle.exact_algebra.proofs.Order.{at_most_or_above, factor_negative, factor_not_negative, no_zero_divisors, product_negative, product_not_negative, product_of_negative, product_positive, square_not_negative, square_nothing}
use Rattle.exact_algebra.proofs.RingLaws.{*ℤ_comm, *ℤ-zero}
use Rattle.exact_algebra.proofs.RingTactic.{ring_laws, linear}
use Rattle.plane_hull.proofs.AngleOrder.{IsLower, IsUpper, cross}

-- above 0 where two vectors are less than a right angle apart
abbrev pub dot : ℤ → ℤ → ℤ → ℤ → ℤ
dot a b c d = a *ℤ c +ℤ b *ℤ d

abbrev pub square : ℤ → ℤ → ℤ
square a b = a *ℤ a +ℤ b *ℤ b

pub areas_along : (a b c d e f : ℤ) → square a b *ℤ cross c d e f ≡ dot a b c d *ℤ cross a b e f -ℤ cross a b c d *ℤ dot a b e f
areas_along a b c d e f = simp ring_laws (omega (arith, linear))

pub products_along : (a b c d e f : ℤ) → square a b *ℤ dot c d e f ≡ dot a b c d *ℤ dot a b e f +ℤ cross a b c d *ℤ cross a b e f
products_along a b c d e f = simp ring_laws (omega (arith, linear))

first_along : (a b e f : ℤ) → square a b *ℤ e ≡ a *ℤ dot a b e f -ℤ b *ℤ cross a b e f
first_along a b e f = simp ring_laws (omega (arith, linear))

second_along : (a b e f : ℤ) → square a b *ℤ f ≡ b *ℤ dot a b e f +ℤ a *ℤ cross a b e f
second_along a b e f = simp ring_laws (omega (arith, linear))

-- a vector with something to its left isn't 0
pub has_length : (a b e f : ℤ) → pos 0 <ℤ cross a b e f → pos 0 <ℤ square a b
has_length a b e f left = by (at_most_or_above (square a b) (pos 0))
  where
    by : (square a b ≤ℤ pos 0) ⊎ (pos 0 <ℤ square a b) → pos 0 <ℤ square a b
    by (inr above) = above
    by (inl none) =
        let first = square_not_negative a in
        let second = square_not_negative b in
        let a_0 = square_nothing a (let level : a *ℤ a ≡ pos 0 = omega (arith, linear) in level) in
        let b_0 = square_nothing b (let level : b *ℤ b ≡ pos 0 = omega (arith, linear) in level) in
        let gone = rw (a_0, b_0) at left in
        absurd (let given = simp ring_laws at gone in omega (arith, linear))

pub no_product : (n x : ℤ) → pos 0 <ℤ n → n *ℤ x ≡ pos 0 → x ≡ pos 0
no_product n x over level = by (no_zero_divisors n x level)
  where
    by : (n ≡ pos 0) ⊎ (x ≡ pos 0) → x ≡ pos 0
    by (inl none) = absurd (let z : pos 0 <ℤ pos 0 = rw none at over in omega (arith, ints))
    by (inr none) = none

from_nothing : (a b s t : ℤ) → s ≡ pos 0 → t ≡ pos 0 → (a *ℤ s -ℤ b *ℤ t ≡ pos 0) × (b *ℤ s +ℤ a *ℤ t ≡ pos 0)
from_nothing a b s t first second = rw (first, second, *ℤ-zero a, *ℤ-zero b) (refl, refl)

-- what is neither along a vector nor beside it is 0
pub nothing_left : (a b e f : ℤ) → pos 0 <ℤ square a b → dot a b e f ≡ pos 0 → cross a b e f ≡ pos 0 → (e ≡ pos 0) × (f ≡ pos 0)
nothing_left a b e f long along beside =
    let both = from_nothing a b (dot a b e f) (cross a b e f) along beside in
    (no_product (square a b) e long (first_along a b e f ∙ both.0), no_product (square a b) f long (second_along a b e f ∙ both.1))

weakly : (x : ℤ) → pos 0 <ℤ x → pos 0 ≤ℤ x
weakly x h = omega (arith, ints)

-- ---- signs from n x = c t
pub factor_low : (c t : ℤ) → c <ℤ pos 0 → pos 0 ≤ℤ (c *ℤ t) → t ≤ℤ pos 0
factor_low c t under high = by (at_most_or_above t (pos 0))
  where
    by : (t ≤ℤ pos 0) ⊎ (pos 0 <ℤ t) → t ≤ℤ pos 0
    by (inl low) = low
    by (inr above) = absurd (let product = product_negative above under in let same = *ℤ_comm t c in omega (arith, linear))

pub factor_high : (c t : ℤ) → c <ℤ pos 0 → (c *ℤ t) ≤ℤ pos 0 → pos 0 ≤ℤ t
factor_high c t under low = by (at_most_or_above (pos 0) t)
  where
    by : (pos 0 ≤ℤ t) ⊎ (t <ℤ pos 0) → pos 0 ≤ℤ t
    by (inl high) = high
    by (inr below) = absurd (let product = product_of_negative under below in omega (arith, linear))

pub square_positive_of : (a b : ℤ) → pos 0 <ℤ b → pos 0 <ℤ square a b
square_positive_of a b over = let first = square_not_negative a in let second = product_positive over over in omega (arith, linear)

-- a vector that is level, with something ahead to its left
pub edge_left : (a b c d e f : ℤ) → pos 0 <ℤ cross a b c d → dot a b e f ≡ pos 0 → pos 0 ≤ℤ dot c d e f → (e ≡ pos 0 → f ≡ pos 0 → ⊥) → pos 0 <ℤ cross a b e f
edge_left a b c d e f left level ahead moves = by (at_most_or_above (cross a b e f) (pos 0))
  where
    long : pos 0 <ℤ square a b
    long = has_length a b c d left

    whole : square a b *ℤ dot c d e f ≡ cross a b c d *ℤ cross a b e f
    whole = products_along a b c d e f ∙ (rw (level, *ℤ-zero (dot a b c d)) (omega (arith, linear)))

    not_right : pos 0 ≤ℤ cross a b e f
    not_right =
        factor_not_negative (cross a b c d) left (let product = product_not_negative (weakly _ long) ahead in rw (← whole) product)

    by : (cross a b e f ≤ℤ pos 0) ⊎ (pos 0 <ℤ cross a b e f) → pos 0 <ℤ cross a b e f
    by (inr above) = above
    by (inl none) =
        let not_right = not_right in
        let none_beside : cross a b e f ≡ pos 0 = omega (arith, ints) in
        let gone = nothing_left a b e f long level none_beside in
        absurd (moves gone.0 gone.1)

-- two vectors along one line, one in each half plane, point against each other
along_line : (a b c d : ℤ) → b *ℤ dot a b c d ≡ d *ℤ square a b -ℤ a *ℤ cross a b c d
along_line a b c d = simp ring_laws (omega (arith, linear))

pub opposite_halves : (a b c d : ℤ) → IsUpper a b → IsLower c d → (c ≡ pos 0 → d ≡ pos 0 → ⊥) → cross a b c d ≡ pos 0 → dot a b c d <ℤ pos 0
opposite_halves a b c d first second some parallel = by (at_most_or_above b (pos 0)) (at_most_or_above (pos 0) d)
  where
    level_pair : b ≡ pos 0 → dot a b c d <ℤ pos 0
    level_pair b_0 =
        let over = first.1 b_0 in
        let product = rw b_0 at parallel in
        let flat : a *ℤ d ≡ pos 0 = (let given = simp ring_laws at product in omega (arith, linear)) in
        let d_0 = no_product a d over flat in
        let low = second.1 d_0 in
        let under : c <ℤ pos 0 = below_0 c low (λ c_0. some c_0 d_0) in
        rw (b_0, d_0) (let product = product_negative over under in omega (arith, linear))
      where
        below_0 : (c : ℤ) → c ≤ℤ pos 0 → (c ≡ pos 0 → ⊥) → c <ℤ pos 0
        below_0 (pos zero) low apart = absurd (apart refl)
        below_0 (pos (suc n)) low apart = absurd (omega (arith, ints))
        below_0 (negsuc n) low apart = omega (arith, ints)

    by : (b ≤ℤ pos 0) ⊎ (pos 0 <ℤ b) → (pos 0 ≤ℤ d) ⊎ (d <ℤ pos 0) → dot a b c d <ℤ pos 0
    by (inl low) one = let high = first.0 in level_pair (omega (arith, ints))
    by (inr over) (inr under) =
        let long = square_positive_of a b over in
        let product = product_negative long under in
        let same = *ℤ_comm d (square a b) in
        let whole : b *ℤ dot a b c d ≡ d *ℤ square a b = along_line a b c d ∙ (rw (parallel, *ℤ-zero a) (omega (arith, linear))) in
        factor_negative b (weakly b over) (rw whole (rw same product))
    by (inr over) (inl high) =
        let low = second.0 in
        let d_0 : d ≡ pos 0 = omega (arith, ints) in
        let product = rw d_0 at parallel in
        let flat : b *ℤ c ≡ pos 0 = (let given = simp ring_laws at product in omega (arith, linear)) in
        absurd (some (no_product b c over flat) d_0)
