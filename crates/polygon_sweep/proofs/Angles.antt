-- Angles in the plane by the signs of whole numbers. Of four vectors u, v, w, x the products of areas
-- [u w] [v x] = [u v] [w x] + [u x] [v w] put the fourth to the left of the second.
use Rattle.std.proofs.Common.{◌≡◌, ◌⊎◌, inl, inr, sym, ap, ◌∙◌, Option, Some, None, IfSome, ℤ, pos, negsuc, ◌+ℤ◌, ◌-ℤ◌, ◌*ℤ◌, ◌<ℤ◌, ◌≤ℤ◌, arith}
use Rattle.std.proofs.lemmas.Int.{ints}
use Rattle.exact_algebra.proofs.Order.{at_most_or_above, product_not_negative, product_positive, product_not_positive, factor_positive, factor_not_negative, factor_not_positive, square_not_negative, square_nothing}
use Rattle.exact_algebra.proofs.RingLaws.{*ℤ_comm, *ℤ-zero}
use Rattle.exact_algebra.proofs.RingTactic.{ring_laws, linear}
use Rattle.plane_hull.specs.declared.directions.Dir.{Dir}
use Rattle.polygon_sweep.specs.Turning.{cross, dot, IsAhead, IsBoundOf, IsBoundOrNone, IsUpTo, TurnsTo}

areas : (a b c d e f g h : ℤ) → cross a b e f *ℤ cross c d g h ≡ cross a b c d *ℤ cross e f g h +ℤ cross a b g h *ℤ cross c d e f
areas a b c d e f g h = simp ring_laws (omega (arith, linear))

lengths : (a b c d e f : ℤ) → (a *ℤ a +ℤ b *ℤ b) *ℤ cross c d e f ≡ dot a b c d *ℤ cross a b e f -ℤ cross a b c d *ℤ dot a b e f
lengths a b c d e f = simp ring_laws (omega (arith, linear))

-- a vector with something to its left isn't 0
has_length : (a b e f : ℤ) → pos 0 <ℤ cross a b e f → pos 0 <ℤ (a *ℤ a +ℤ b *ℤ b)
has_length a b e f left = by (at_most_or_above (a *ℤ a +ℤ b *ℤ b) (pos 0))
  where
    by : ((a *ℤ a +ℤ b *ℤ b) ≤ℤ pos 0) ⊎ (pos 0 <ℤ (a *ℤ a +ℤ b *ℤ b)) → pos 0 <ℤ (a *ℤ a +ℤ b *ℤ b)
    by (inr above) = above
    by (inl none) =
        let first = square_not_negative a in
        let second = square_not_negative b in
        let a_0 = square_nothing a (let level : a *ℤ a ≡ pos 0 = omega (arith, linear) in level) in
        let b_0 = square_nothing b (let level : b *ℤ b ≡ pos 0 = omega (arith, linear) in level) in
        let gone = rw (a_0, b_0) at left in
        absurd (let given = simp ring_laws at gone in omega (arith, linear))

-- the four products of the argument as plain numbers
no_both : (p q r : ℤ) → p ≡ q -ℤ r → r ≡ pos 0 → q ≤ℤ pos 0 → pos 0 <ℤ p → ⊥
no_both p q r same rest low high = omega (arith, ints)

-- a bound straight behind the direction isn't met before another direction to the left
pub ahead_left : (dir bound other : Dir) → IsAhead dir bound → pos 0 <ℤ cross dir.a dir.b other.a other.b → pos 0 <ℤ cross bound.a bound.b other.a other.b → pos 0 <ℤ cross dir.a dir.b bound.a bound.b
ahead_left dir bound other ahead left before = by (at_most_or_above (cross dir.a dir.b bound.a bound.b) (pos 0))
  where
    by : (cross dir.a dir.b bound.a bound.b ≤ℤ pos 0) ⊎ (pos 0 <ℤ cross dir.a dir.b bound.a bound.b) → pos 0 <ℤ cross dir.a dir.b bound.a bound.b
    by (inr above) = above
    by (inl none) =
        let low = ahead.left in
        let level : cross dir.a dir.b bound.a bound.b ≡ pos 0 = omega (arith, ints) in
        let product = product_positive (has_length dir.a dir.b other.a other.b left) before in
        let weak : pos 0 ≤ℤ cross dir.a dir.b other.a other.b = omega (arith, ints) in
        let gain = product_not_positive weak (ahead.behind level) in
        let same = lengths dir.a dir.b bound.a bound.b other.a other.b in
        let rest : cross dir.a dir.b bound.a bound.b *ℤ dot dir.a dir.b other.a other.b ≡ pos 0 = rw level (omega (arith, linear)) in
        let turned : (dot dir.a dir.b bound.a bound.b *ℤ cross dir.a dir.b other.a other.b) ≤ℤ pos 0 = rw (*ℤ_comm (dot dir.a dir.b bound.a bound.b) (cross dir.a dir.b other.a other.b)) gain in
        absurd (no_both _ _ _ same rest turned product)

at_least_0 : (x : ℤ) → pos 0 <ℤ x → pos 0 ≤ℤ x
at_least_0 x h = omega (arith, ints)

pub stays_over : (x : ℤ) → (x <ℤ pos 0 → ⊥) → pos 0 ≤ℤ x
stays_over (pos n) h = omega (arith, ints)
stays_over (negsuc n) h = absurd (h (omega (arith, ints)))

sum_positive : (x y z : ℤ) → x ≡ y +ℤ z → pos 0 ≤ℤ y → pos 0 <ℤ z → pos 0 <ℤ x
sum_positive x y z e h k = omega (arith, ints)

pub turns_sooner : (dir bound other : Dir) → IsAhead dir bound → TurnsTo dir other → pos 0 <ℤ cross bound.a bound.b other.a other.b → TurnsTo dir bound
turns_sooner dir bound other ahead turns before =
    let left = ahead_left dir bound other ahead turns.left before in
    record {
      left = left;
      no_axis = λ a b axis over.
          let later = turns.no_axis a b axis over in
          let first = product_not_negative (let weak : pos 0 ≤ℤ cross dir.a dir.b bound.a bound.b = omega (arith, ints) in weak) later in
          let second = product_positive over before in
          let same = areas dir.a dir.b bound.a bound.b other.a other.b a b in
          let whole = sum_positive _ _ _ same first second in
          let here = factor_positive (cross dir.a dir.b other.a other.b) (let weak : pos 0 ≤ℤ cross dir.a dir.b other.a other.b = at_least_0 _ turns.left in weak) whole in
          at_least_0 _ here;
    }

-- ---- the bound of a column that doesn't improve

along : (a b x y f s by : ℤ) → x *ℤ by ≡ pos 0 -ℤ s → y *ℤ by ≡ f → by *ℤ cross a b x y ≡ a *ℤ f +ℤ b *ℤ s
along a b x y f s by x_is y_is = let one : y *ℤ by ≡ f = y_is in let two : s ≡ pos 0 -ℤ x *ℤ by = omega (arith, ints) in rw (two, ← one) (simp ring_laws (omega (arith, linear)))

across : (a b x y f s by : ℤ) → x *ℤ by ≡ pos 0 -ℤ s → y *ℤ by ≡ f → by *ℤ dot a b x y ≡ pos 0 -ℤ (a *ℤ s -ℤ b *ℤ f)
across a b x y f s by x_is y_is = let one : y *ℤ by ≡ f = y_is in let two : s ≡ pos 0 -ℤ x *ℤ by = omega (arith, ints) in rw (two, ← one) (simp ring_laws (omega (arith, linear)))

module _ (dir bound : Dir) (first second : ℤ) (is : IsBoundOf first second bound) where
  ahead_of_bound : ((a_first : (dir.a *ℤ first +ℤ dir.b *ℤ second) <ℤ pos 0) → ⊥) → (dir.a *ℤ first +ℤ dir.b *ℤ second ≡ pos 0 → (dir.a *ℤ second -ℤ dir.b *ℤ first) <ℤ pos 0 → ⊥) → IsAhead dir bound
  ahead_of_bound not_below not_level = record { left = left; behind = behind }
    where
      reduced : is.by *ℤ cross dir.a dir.b bound.a bound.b ≡ dir.a *ℤ first +ℤ dir.b *ℤ second
      reduced = along dir.a dir.b bound.a bound.b first second is.by is.a is.b

      turned : is.by *ℤ dot dir.a dir.b bound.a bound.b ≡ pos 0 -ℤ (dir.a *ℤ second -ℤ dir.b *ℤ first)
      turned = across dir.a dir.b bound.a bound.b first second is.by is.a is.b

      left : pos 0 ≤ℤ cross dir.a dir.b bound.a bound.b
      left = factor_not_negative is.by is.positive (rw reduced (stays_over _ not_below))

      behind : cross dir.a dir.b bound.a bound.b ≡ pos 0 → dot dir.a dir.b bound.a bound.b ≤ℤ pos 0
      behind level =
          let none : dir.a *ℤ first +ℤ dir.b *ℤ second ≡ pos 0 = sym reduced ∙ (ap (λ e. is.by *ℤ e) level ∙ *ℤ-zero is.by) in
          let high = stays_over _ (not_level none) in
          factor_not_positive is.by is.positive (rw turned (omega (arith, ints)))

-- where there is a bound
pub bound_ahead : (dir : Dir) (first second : ℤ) (bound : Option Dir) → IsBoundOrNone first second bound → ((dir.a *ℤ first +ℤ dir.b *ℤ second) <ℤ pos 0 → ⊥) → (dir.a *ℤ first +ℤ dir.b *ℤ second ≡ pos 0 → (dir.a *ℤ second -ℤ dir.b *ℤ first) <ℤ pos 0 → ⊥) → IfSome bound (IsAhead dir)
bound_ahead dir first second None is not_below not_level = tt
bound_ahead dir first second (Some bound) is not_below not_level = ahead_of_bound dir bound first second is not_below not_level

-- ---- directions up to the bounds

pub not_before : (a b c d : ℤ) → (pos 0 <ℤ cross a b c d → ⊥) → pos 0 ≤ℤ cross c d a b
not_before a b c d none = by (at_most_or_above (cross a b c d) (pos 0))
  where
    by : (cross a b c d ≤ℤ pos 0) ⊎ (pos 0 <ℤ cross a b c d) → pos 0 ≤ℤ cross c d a b
    by (inl low) = omega (arith, ints)
    by (inr above) = absurd (none above)

pub itself : (a b : ℤ) → pos 0 ≤ℤ cross a b a b
itself a b = omega (arith, ints)

-- up to its bound a column costs nothing less than 0
pub costs_up_to : (found : Dir) (first second : ℤ) (bound : Option Dir) → IsBoundOrNone first second bound → IfSome bound (IsUpTo found) → pos 0 ≤ℤ (found.a *ℤ first +ℤ found.b *ℤ second)
costs_up_to found first second None is up_to = rw (is.0, is.1, *ℤ-zero found.a, *ℤ-zero found.b) (omega (arith, ints))
costs_up_to found first second (Some bound) is up_to =
    let same = along found.a found.b bound.a bound.b first second is.by is.a is.b in
    rw (← same) (product_not_negative (at_least_0 is.by is.positive) up_to)

-- between two directions a column costs what it does at both, in parts of 0 or more
pub costs_between : (dir other found : Dir) (first second : ℤ) → pos 0 <ℤ cross dir.a dir.b other.a other.b → pos 0 <ℤ cross dir.a dir.b found.a found.b → IsUpTo found other
    → pos 0 ≤ℤ (dir.a *ℤ first +ℤ dir.b *ℤ second) → pos 0 ≤ℤ (other.a *ℤ first +ℤ other.b *ℤ second) → pos 0 ≤ℤ (found.a *ℤ first +ℤ found.b *ℤ second)
costs_between dir other found first second left sooner up_to here there =
    factor_not_negative (cross dir.a dir.b other.a other.b) left
    (rw (parts dir.a dir.b other.a other.b found.a found.b first second)
    (both _ _ (product_not_negative up_to here) (product_not_negative (at_least_0 _ sooner) there)))
  where
    parts : (a b c d x y f s : ℤ) → cross a b c d *ℤ (x *ℤ f +ℤ y *ℤ s) ≡ cross x y c d *ℤ (a *ℤ f +ℤ b *ℤ s) +ℤ cross a b x y *ℤ (c *ℤ f +ℤ d *ℤ s)
    parts a b c d x y f s = simp ring_laws (omega (arith, linear))

    both : (p q : ℤ) → pos 0 ≤ℤ p → pos 0 ≤ℤ q → pos 0 ≤ℤ (p +ℤ q)
    both p q low high = omega (arith, ints)
