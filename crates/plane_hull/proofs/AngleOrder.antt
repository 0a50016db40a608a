-- The order of directions by angle: no direction comes before itself, and what is behind another one is behind all before that.
-- In one half plane it goes by the sign of an area, and d [x z] = b [y z] + f [x y] over the second parts b, d, f of x, y, z.
use Rattle.std.proofs.Common.{◌≡◌, ◌⊎◌, inl, inr, ℕ, ◌<◌, refl, sym, ◌∙◌, ℤ, pos, ◌+ℤ◌, ◌-ℤ◌, ◌*ℤ◌, ◌<ℤ◌, ◌≤ℤ◌, Less, Equal, Greater, int_cmp, arith}
use Rattle.std.specs.Ordering.{MatchOrdering, nat_cmp, ordering_then}
use Rattle.std.specs.declared.cmp.Ordering.{Ordering}
use Rattle.std.specs.Cmp.{nat_cmp_is, int_cmp_is}
use Rattle.std.proofs.lemmas.Cmp.{ranked, int_ranked}
use Rattle.std.proofs.lemmas.Int.{ints}
use Rattle.exact_algebra.proofs.Order.{at_most_or_above, factor_positive, product_not_negative, product_not_positive, product_positive, product_negative, product_of_not_positive}
use Rattle.exact_algebra.proofs.RingLaws.{*ℤ_comm}
use Rattle.exact_algebra.proofs.RingTactic.{ring_laws, linear}
use Rattle.plane_hull.specs.declared.directions.Dir.{Dir}
use Rattle.plane_hull.specs.Angle.{angle_cmp, half_by, half_of}

-- above 0 where (c, d) lies to the left of (a, b), by less than half a turn
abbrev pub cross : ℤ → ℤ → ℤ → ℤ → ℤ
cross a b c d = a *ℤ d -ℤ b *ℤ c

-- ---- half planes

-- the upper half plane with its first axis
abbrev pub IsUpper : ℤ → ℤ → Type 0
IsUpper a b = (pos 0 ≤ℤ b) × (b ≡ pos 0 → pos 0 <ℤ a)

-- the lower half plane with its first axis, and the origin
abbrev pub IsLower : ℤ → ℤ → Type 0
IsLower a b = (b ≤ℤ pos 0) × (b ≡ pos 0 → a ≤ℤ pos 0)

upper_by : (a b : ℤ) (o p : Ordering) → MatchOrdering o (b <ℤ pos 0) (b ≡ pos 0) (pos 0 <ℤ b) → MatchOrdering p (a <ℤ pos 0) (a ≡ pos 0) (pos 0 <ℤ a)
    → half_by o p ≡ 0 → IsUpper a b
upper_by a b Greater p h k e = (omega (arith, ints), λ z. absurd (omega (arith, ints)))
upper_by a b Equal Greater h k e = (omega (arith, ints), λ z. k)
upper_by a b Equal Equal h k e = absurd (omega arith)
upper_by a b Equal Less h k e = absurd (omega arith)
upper_by a b Less p h k e = absurd (omega arith)

lower_by : (a b : ℤ) (o p : Ordering) → MatchOrdering o (b <ℤ pos 0) (b ≡ pos 0) (pos 0 <ℤ b) → MatchOrdering p (a <ℤ pos 0) (a ≡ pos 0) (pos 0 <ℤ a)
    → half_by o p ≡ 1 → IsLower a b
lower_by a b Greater p h k e = absurd (omega arith)
lower_by a b Equal Greater h k e = absurd (omega arith)
lower_by a b Equal Equal h k e = (omega (arith, ints), λ z. omega (arith, ints))
lower_by a b Equal Less h k e = (omega (arith, ints), λ z. omega (arith, ints))
lower_by a b Less p h k e = (omega (arith, ints), λ z. absurd (omega (arith, ints)))

pub upper : (dir : Dir) → half_of dir ≡ 0 → IsUpper dir.a dir.b
upper dir e = upper_by dir.a dir.b (int_cmp dir.b (pos 0)) (int_cmp dir.a (pos 0)) (int_ranked dir.b (pos 0) _ refl) (int_ranked dir.a (pos 0) _ refl) e

pub lower : (dir : Dir) → half_of dir ≡ 1 → IsLower dir.a dir.b
lower dir e = lower_by dir.a dir.b (int_cmp dir.b (pos 0)) (int_cmp dir.a (pos 0)) (int_ranked dir.b (pos 0) _ refl) (int_ranked dir.a (pos 0) _ refl) e

half_cases_by : (o p : Ordering) → (half_by o p ≡ 0) ⊎ (half_by o p ≡ 1)
half_cases_by Greater p = inl refl
half_cases_by Equal Greater = inl refl
half_cases_by Equal Equal = inr refl
half_cases_by Equal Less = inr refl
half_cases_by Less p = inr refl

pub half_cases : (dir : Dir) → (half_of dir ≡ 0) ⊎ (half_of dir ≡ 1)
half_cases dir = half_cases_by (int_cmp dir.b (pos 0)) (int_cmp dir.a (pos 0))

-- ---- what the order says

-- x comes before y: in the half plane before, or in the same one further to the right
pub data IsBefore (x y : Dir) : Type 0 where
  other_half : half_of x ≡ 0 → half_of y ≡ 1 → IsBefore x y
  same_half : half_of x ≡ half_of y → pos 0 <ℤ cross x.a x.b y.a y.b → IsBefore x y

then_less : (o p : Ordering) → ordering_then o p ≡ Less → (o ≡ Less) ⊎ ((o ≡ Equal) × (p ≡ Less))
then_less Less p h = inl refl
then_less Equal p h = inr (refl, h)
then_less Greater p h = absurd (cc)

nat_less : (x y : ℕ) → nat_cmp x y ≡ Less → x < y
nat_less x y e = ranked x y Less (sym e)

nat_level : (x y : ℕ) → nat_cmp x y ≡ Equal → x ≡ y
nat_level x y e = ranked x y Equal (sym e)

int_less : (x y : ℤ) → int_cmp x y ≡ Less → x <ℤ y
int_less x y e = int_ranked x y Less (sym e)

left_of : (a b c d : ℤ) → (b *ℤ c) <ℤ (a *ℤ d) → pos 0 <ℤ cross a b c d
left_of a b c d h = omega (arith, linear)

right_of : (a b c d : ℤ) → pos 0 <ℤ cross a b c d → (b *ℤ c) <ℤ (a *ℤ d)
right_of a b c d h = omega (arith, linear)

halves_apart : (x y : Dir) → half_of x < half_of y → IsBefore x y
halves_apart x y below = by (half_cases x) (half_cases y)
  where
    by : (half_of x ≡ 0) ⊎ (half_of x ≡ 1) → (half_of y ≡ 0) ⊎ (half_of y ≡ 1) → IsBefore x y
    by (inl first) (inr second) = other_half first second
    by (inl first) (inl second) = absurd (omega arith)
    by (inr first) (inl second) = absurd (omega arith)
    by (inr first) (inr second) = absurd (omega arith)

pub before : (x y : Dir) → angle_cmp x y ≡ Less → IsBefore x y
before x y e = by (then_less (nat_cmp (half_of x) (half_of y)) (int_cmp (x.b *ℤ y.a) (x.a *ℤ y.b)) e)
  where
    by : (nat_cmp (half_of x) (half_of y) ≡ Less) ⊎ ((nat_cmp (half_of x) (half_of y) ≡ Equal) × (int_cmp (x.b *ℤ y.a) (x.a *ℤ y.b) ≡ Less)) → IsBefore x y
    by (inl below) = halves_apart x y (nat_less _ _ below)
    by (inr (level, left)) = same_half (nat_level _ _ level) (left_of x.a x.b y.a y.b (int_less _ _ left))

pub less : (x y : Dir) → IsBefore x y → angle_cmp x y ≡ Less
less x y (other_half first second) =
    let below : Less ≡ nat_cmp (half_of x) (half_of y) = nat_cmp_is (half_of x) (half_of y) Less (omega arith) in
    rw (← below) refl
less x y (same_half level left) =
    let same : Equal ≡ nat_cmp (half_of x) (half_of y) = nat_cmp_is (half_of x) (half_of y) Equal level in
    let under : Less ≡ int_cmp (x.b *ℤ y.a) (x.a *ℤ y.b) = int_cmp_is _ _ Less (right_of x.a x.b y.a y.b left) in
    rw (← same, ← under) refl

-- ---- no direction before itself

no_area : (a b : ℤ) → pos 0 <ℤ cross a b a b → ⊥
no_area a b h = let given = simp ring_laws at h in omega (arith, linear)

pub not_itself : (x : Dir) → IsBefore x x → ⊥
not_itself x (other_half first second) = omega arith
not_itself x (same_half level left) = no_area x.a x.b left

-- ---- behind what is behind

second_parts : (a b c d e f : ℤ) → d *ℤ cross a b e f ≡ b *ℤ cross c d e f +ℤ f *ℤ cross a b c d
second_parts a b c d e f = simp ring_laws (omega (arith, linear))

-- to the left of something in the upper half plane lies nothing on its first axis
over_axis : (a b c d : ℤ) → IsUpper a b → IsUpper c d → pos 0 <ℤ cross a b c d → pos 0 <ℤ d
over_axis a b c d first second left = by (at_most_or_above d (pos 0))
  where
    by : (d ≤ℤ pos 0) ⊎ (pos 0 <ℤ d) → pos 0 <ℤ d
    by (inr above) = above
    by (inl none) =
        let level : d ≡ pos 0 = omega (arith, ints, second.0) in
        let right : pos 0 ≤ℤ c = omega (arith, ints, second.1 level) in
        let product = product_not_negative first.0 right in
        let gone = rw level at left in
        absurd (let given = simp ring_laws at gone in omega (arith, linear))

under_axis : (a b c d : ℤ) → IsLower a b → IsLower c d → pos 0 <ℤ cross a b c d → d <ℤ pos 0
under_axis a b c d first second left = by (at_most_or_above (pos 0) d)
  where
    by : (pos 0 ≤ℤ d) ⊎ (d <ℤ pos 0) → d <ℤ pos 0
    by (inr below) = below
    by (inl none) =
        let level : d ≡ pos 0 = omega (arith, ints, second.0) in
        let product = product_of_not_positive first.0 (second.1 level) in
        let gone = rw level at left in
        absurd (let given = simp ring_laws at gone in omega (arith, linear))

sum_over : (x y z : ℤ) → x ≡ y +ℤ z → pos 0 ≤ℤ y → pos 0 <ℤ z → pos 0 <ℤ x
sum_over x y z e h k = omega (arith, ints)

sum_under : (x y z : ℤ) → x ≡ y +ℤ z → y ≤ℤ pos 0 → z <ℤ pos 0 → x <ℤ pos 0
sum_under x y z e h k = omega (arith, ints)

weakly : (x : ℤ) → pos 0 <ℤ x → pos 0 ≤ℤ x
weakly x h = omega (arith, ints)

swapped_positive : (a b : ℤ) → pos 0 <ℤ a → b <ℤ pos 0 → (b *ℤ a) <ℤ pos 0
swapped_positive a b h k = rw (*ℤ_comm b a) (product_negative h k)

swapped_not_positive : (a b : ℤ) → pos 0 ≤ℤ a → b ≤ℤ pos 0 → (b *ℤ a) ≤ℤ pos 0
swapped_not_positive a b h k = rw (*ℤ_comm b a) (product_not_positive h k)

factor_over : (a b : ℤ) → a <ℤ pos 0 → (a *ℤ b) <ℤ pos 0 → pos 0 <ℤ b
factor_over a b h k = by (at_most_or_above b (pos 0))
  where
    by : (b ≤ℤ pos 0) ⊎ (pos 0 <ℤ b) → pos 0 <ℤ b
    by (inr above) = above
    by (inl none) = absurd (let product = product_of_not_positive (let weak : a ≤ℤ pos 0 = omega (arith, ints) in weak) none in omega (arith, linear))

upper_left : (a b c d e f : ℤ) → IsUpper a b → IsUpper c d → IsUpper e f → pos 0 <ℤ cross a b c d → pos 0 <ℤ cross c d e f → pos 0 <ℤ cross a b e f
upper_left a b c d e f first second third left further =
    factor_positive d (weakly d (over_axis a b c d first second left))
    (sum_over _ _ _ (second_parts a b c d e f)
    (product_not_negative first.0 (weakly _ further))
    (product_positive (over_axis c d e f second third further) left))

lower_left : (a b c d e f : ℤ) → IsLower a b → IsLower c d → IsLower e f → pos 0 <ℤ cross a b c d → pos 0 <ℤ cross c d e f → pos 0 <ℤ cross a b e f
lower_left a b c d e f first second third left further =
    factor_over d (cross a b e f) (under_axis a b c d first second left)
    (sum_under _ _ _ (second_parts a b c d e f)
    (swapped_not_positive (cross c d e f) b (weakly _ further) first.0)
    (swapped_positive (cross a b c d) f left (under_axis c d e f second third further)))

pub behind : (x y z : Dir) → IsBefore x y → IsBefore y z → IsBefore x z
behind x y z (other_half first second) (other_half third fourth) = absurd (omega arith)
behind x y z (other_half first second) (same_half level left) = other_half first (sym level ∙ second)
behind x y z (same_half level left) (other_half first second) = other_half (level ∙ first) second
behind x y z (same_half level left) (same_half more further) = same_half (level ∙ more) (by (half_cases x))
  where
    by : (half_of x ≡ 0) ⊎ (half_of x ≡ 1) → pos 0 <ℤ cross x.a x.b z.a z.b
    by (inl up) =
        upper_left x.a x.b y.a y.b z.a z.b (upper x up) (upper y (sym level ∙ up)) (upper z (sym (level ∙ more) ∙ up)) left further
    by (inr down) =
        lower_left x.a x.b y.a y.b z.a z.b (lower x down) (lower y (sym level ∙ down)) (lower z (sym (level ∙ more) ∙ down)) left further
