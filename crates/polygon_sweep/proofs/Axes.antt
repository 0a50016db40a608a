-- The axes are directions of coprime numbers.
use Rattle.std.proofs.Common.{◌≡◌, ◌↔◌, ◌⊎◌, inl, inr, ℕ, suc, ℤ, pos, negsuc, ◌<ℤ◌, ◌≤ℤ◌, unsigned_abs, IsTrue, nat_eq, to_z, of_z, refl, ap, sym, ◌∙◌, arith}
use Rattle.std.specs.Int.{IsGcd, w128}
use Rattle.std.proofs.lemmas.Int.{ints}
use Rattle.std.proofs.lemmas.Bool.Decides.{nat_tests}
use Rattle.exact_algebra.proofs.Order.{at_most_or_above}
use Rattle.corr_num.proofs.PrintedTerms.{narrow_returned}
use Rattle.corr_num.specs.Narrow.{Narrow}
use Rattle.plane_hull.specs.Belt as belt
use Rattle.plane_hull.specs.declared.directions.Dir.{Dir}
use Rattle.polygon_sweep.specs.Swept.{IsCoprime}
use Rattle.polygon_sweep.specs.Turning.{IsAxis, TurnsFrom, cross}
use Rattle.std.proofs.lemmas.Nat.Gcd.{dvd-zero, dvd_refl}
use Rattle.std.proofs.Math.Nat.{le_of_dvd, one-dvd}

pub first_axis : IsGcd 1 0 1
first_axis = (one-dvd 1, one-dvd 0, λ d left right. left)

pub second_axis : IsGcd 0 1 1
second_axis = (one-dvd 0, one-dvd 1, λ d left right. right)

-- no direction of coprime numbers is 0
pub not_nothing : (a b : ℤ) → IsGcd (unsigned_abs a) (unsigned_abs b) 1 → a ≡ pos 0 → b ≡ pos 0 → ⊥
not_nothing a b divisor a_0 b_0 =
    let given = rw (a_0, b_0) at divisor in
    let low = le_of_dvd (omega arith) (given.2 2 (dvd-zero 2) (dvd-zero 2)) in
    omega arith

above_nothing : (a b : ℤ) → IsGcd (unsigned_abs a) (unsigned_abs b) 1 → pos 0 ≤ℤ a → b ≡ pos 0 → (a ≤ℤ pos 0) ⊎ (pos 0 <ℤ a) → pos 0 <ℤ a
above_nothing a b divisor low level (inr above) = above
above_nothing a b divisor low level (inl none) = absurd (not_nothing a b divisor (omega (arith, ints)) level)

-- from the first axis the second one is the next
pub from_first_axis : (a b : ℤ) → IsGcd (unsigned_abs a) (unsigned_abs b) 1 → b ≤ℤ pos 0 → pos 0 ≤ℤ a → pos 0 ≤ℤ b → TurnsFrom a b (pos 0) (pos 1)
from_first_axis a b divisor b_low a_high b_high = record { left = left; no_axis = no_axis }
  where
    level : b ≡ pos 0
    level = omega (arith, ints)

    above : pos 0 <ℤ a
    above = above_nothing a b divisor a_high level (at_most_or_above a (pos 0))

    left : pos 0 <ℤ cross a b (pos 0) (pos 1)
    left = let over = above in rw level (omega (arith, ints))

    no_axis : (x y : ℤ) → IsAxis x y → pos 0 <ℤ cross a b x y → pos 0 ≤ℤ cross (pos 0) (pos 1) x y
    no_axis x y (inl (x_is, y_is)) over = absurd (let given = rw (x_is, y_is, level) at over in omega (arith, ints))
    no_axis x y (inr (inl (x_is, y_is))) over = rw (x_is, y_is) (omega (arith, ints))
    no_axis x y (inr (inr (inl (x_is, y_is)))) over = rw (x_is, y_is) (omega (arith, ints))
    no_axis x y (inr (inr (inr (x_is, y_is)))) over = rw (x_is, y_is) (omega (arith, ints))

unit_part : (c : ℤ) → (c ≡ pos 0 → ⊥) → IsGcd (unsigned_abs c) 0 1 → (c ≡ pos 1) ⊎ (c ≡ negsuc 0)
unit_part (pos n) other divisor =
    let low = le_of_dvd (omega arith) (divisor.2 n (dvd_refl n) (dvd-zero n)) in
    let over : n ≡ 0 → ⊥ = λ e. other (ap pos e) in
    inl (let one : n ≡ 1 = omega arith in ap pos one)
unit_part (negsuc n) other divisor =
    let low = le_of_dvd (omega arith) (divisor.2 (suc n) (dvd_refl (suc n)) (dvd-zero (suc n))) in
    inr (let none : n ≡ 0 = omega arith in ap negsuc none)

turned_divisor : (a b : ℕ) → IsGcd a b 1 → IsGcd b a 1
turned_divisor a b divisor = (divisor.1, divisor.0, λ d left right. divisor.2 d right left)

-- a direction of coprime numbers one of which is 0 is an axis
pub upright : (dir : Dir) → IsCoprime dir → dir.a ≡ pos 0 → belt.IsAxis dir
upright dir coprime none = by (unit_part dir.b (not_nothing dir.a dir.b coprime none)
    (turned_divisor 0 (unsigned_abs dir.b) (rw none at coprime)))
  where
    by : (dir.b ≡ pos 1) ⊎ (dir.b ≡ negsuc 0) → belt.IsAxis dir
    by (inl e) = inr (inl (none, e))
    by (inr e) = inr (inr (inr (none, e)))

pub level : (dir : Dir) → IsCoprime dir → dir.b ≡ pos 0 → belt.IsAxis dir
level dir coprime none = by (unit_part dir.a (λ e. not_nothing dir.a dir.b coprime e none) (rw none at coprime))
  where
    by : (dir.a ≡ pos 1) ⊎ (dir.a ≡ negsuc 0) → belt.IsAxis dir
    by (inl e) = inl (e, none)
    by (inr e) = inr (inr (inl (e, none)))

pub part_nothing : (dir : Dir) → belt.IsAxis dir → (dir.a ≡ pos 0) ⊎ (dir.b ≡ pos 0)
part_nothing dir (inl e) = inr e.1
part_nothing dir (inr (inl e)) = inl e.0
part_nothing dir (inr (inr (inl e))) = inr e.1
part_nothing dir (inr (inr (inr e))) = inl e.0

-- ---- a number's bits are 0 where it is

pub bits_nothing : (a : ℤ) → Narrow a → of_z w128 a ≡ 0 → a ≡ pos 0
bits_nothing a narrow none = sym (narrow_returned a narrow) ∙ ap (to_z w128) none

pub nothing_bits : (a : ℤ) → a ≡ pos 0 → of_z w128 a ≡ 0
nothing_bits a e = rw e refl

pub reads_nothing : (a : ℤ) → Narrow a → IsTrue (nat_eq (of_z w128 a) 0) ↔ (a ≡ pos 0)
reads_nothing a narrow = (
  λ zero. bits_nothing a narrow (grind (arith, nat_tests, zero)),
  λ none. let zero = nothing_bits a none in grind (arith, nat_tests, zero),
)
