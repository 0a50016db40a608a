-- A belt as functions of the number of a side: which side leaves a corner, that no two edges are alike, and that behind an edge the belt
-- turns to the left by less than half a turn, since an axis stands between.
use Rattle.std.proofs.Common.{◌≡◌, ◌⊎◌, inl, inr, ℕ, zero, suc, ◌+◌, ◌<◌, ◌≤◌, refl, sym, ◌∙◌, ap, subst, ℤ, pos, negsuc, neg_ℤ, ◌<ℤ◌, ◌≤ℤ◌, Less, arith}
use Rattle.std.proofs.lemmas.Bool.{cases_lt}
use Rattle.std.proofs.lemmas.Int.{ints}
use Rattle.exact_algebra.proofs.Order.{at_most_or_above}
use Rattle.exact_algebra.proofs.RingTactic.{ring_laws, linear}
use Rattle.plane_hull.specs.declared.directions.Dir.{Dir}
use Rattle.plane_hull.specs.declared.sides.SideRow.{SideRow}
use Rattle.plane_hull.specs.Angle.{angle_cmp, half_of}
use Rattle.plane_hull.specs.Belt.{IsDirection, IsRight, MayFollow, TurnsOn}
use Rattle.plane_hull.proofs.AngleOrder.{IsBefore, IsLower, IsUpper, before, cross, half_cases, lower, other_half, same_half, upper}
use Rattle.plane_hull.proofs.Areas.{dot, opposite_halves}
use Rattle.plane_hull.proofs.Runs.{Later, both_right, later, right_too, run, stays_right, turned}

-- sides 0 to t round n corners
pub record IsRoundBelt (n t : ℕ) (side : ℕ → SideRow) : Type 0 where
  pub follow : (k : ℕ) → suc k < suc t → MayFollow n k (side k) (side (suc k))
  pub close : MayFollow n t (side t) (side 0)
  pub right : IsRight (side 0).dir
  pub start : (side 0).corner ≡ 0
  pub no_three : (i j k : ℕ) → i < j → j < k → k ≤ t → (side i).dir ≡ (side j).dir → (side j).dir ≡ (side k).dir → ⊥
  pub many : 2 ≤ t
  pub up : ℕ
  pub up_in : up ≤ t
  pub up_is : IsDirection (pos 0) (pos 1) (side up).dir
  pub left : ℕ
  pub left_in : left ≤ t
  pub left_is : IsDirection (negsuc 0) (pos 0) (side left).dir
  pub down : ℕ
  pub down_in : down ≤ t
  pub down_is : IsDirection (pos 0) (negsuc 0) (side down).dir

-- one side behind another, with the first behind the last
pub data Comes (t : ℕ) : ℕ → ℕ → Type 0 where
  comes_next : (k : ℕ) → k < t → Comes t k (suc k)
  comes_again : Comes t t 0

-- ---- halves of the axes

axis_half : (dir : Dir) (a b : ℤ) → IsDirection a b dir → (half_of dir ≡ 0) ⊎ (half_of dir ≡ 1) → ((half_of dir ≡ 0) × IsUpper a b) ⊎ ((half_of dir ≡ 1) × IsLower a b)
axis_half dir a b is (inl first) = inl (first, (let h = upper dir first in rw (is.0, is.1) at h))
axis_half dir a b is (inr second) = inr (second, (let h = lower dir second in rw (is.0, is.1) at h))

pub up_first : (dir : Dir) → IsDirection (pos 0) (pos 1) dir → half_of dir ≡ 0
up_first dir is = by (axis_half dir (pos 0) (pos 1) is (half_cases dir))
  where
    by : ((half_of dir ≡ 0) × IsUpper (pos 0) (pos 1)) ⊎ ((half_of dir ≡ 1) × IsLower (pos 0) (pos 1)) → half_of dir ≡ 0
    by (inl (first, _)) = first
    by (inr (_, h)) = absurd (let low = h.0 in omega (arith, ints))

pub right_first : (dir : Dir) → IsRight dir → half_of dir ≡ 0
right_first dir is = by (axis_half dir (pos 1) (pos 0) is (half_cases dir))
  where
    by : ((half_of dir ≡ 0) × IsUpper (pos 1) (pos 0)) ⊎ ((half_of dir ≡ 1) × IsLower (pos 1) (pos 0)) → half_of dir ≡ 0
    by (inl (first, _)) = first
    by (inr (_, h)) = absurd (let low = h.1 refl in omega (arith, ints))

pub left_second : (dir : Dir) → IsDirection (negsuc 0) (pos 0) dir → half_of dir ≡ 1
left_second dir is = by (axis_half dir (negsuc 0) (pos 0) is (half_cases dir))
  where
    by : ((half_of dir ≡ 0) × IsUpper (negsuc 0) (pos 0)) ⊎ ((half_of dir ≡ 1) × IsLower (negsuc 0) (pos 0)) → half_of dir ≡ 1
    by (inl (_, h)) = absurd (let high = h.1 refl in omega (arith, ints))
    by (inr (second, _)) = second

pub down_second : (dir : Dir) → IsDirection (pos 0) (negsuc 0) dir → half_of dir ≡ 1
down_second dir is = by (axis_half dir (pos 0) (negsuc 0) is (half_cases dir))
  where
    by : ((half_of dir ≡ 0) × IsUpper (pos 0) (negsuc 0)) ⊎ ((half_of dir ≡ 1) × IsLower (pos 0) (negsuc 0)) → half_of dir ≡ 1
    by (inl (_, h)) = absurd (let high = h.0 in omega (arith, ints))
    by (inr (second, _)) = second

-- a direction that isn't right and comes before another comes before it by its angle
pub angle_of : (k : ℕ) (x y : Dir) → TurnsOn k x y → (IsRight y → ⊥) → IsBefore x y
angle_of k x y turn not_right = by turn.greater
  where
    by : IsRight y ⊎ (angle_cmp x y ≡ Less) → IsBefore x y
    by (inl right) = absurd (not_right right)
    by (inr angle) = before x y angle

pub up_not_right : (dir : Dir) → IsDirection (pos 0) (pos 1) dir → IsRight dir → ⊥
up_not_right dir is right = let e : pos 0 ≡ pos 1 = sym is.0 ∙ right.0 in cc

pub left_not_right : (dir : Dir) → IsDirection (negsuc 0) (pos 0) dir → IsRight dir → ⊥
left_not_right dir is right = let e : negsuc 0 ≡ pos 1 = sym is.0 ∙ right.0 in cc

down_not_right : (dir : Dir) → IsDirection (pos 0) (negsuc 0) dir → IsRight dir → ⊥
down_not_right dir is right = let e : pos 0 ≡ pos 1 = sym is.0 ∙ right.0 in cc

-- where two halves are known
pub halves : (x y : Dir) → half_of x ≡ 1 → half_of y ≡ 0 → IsBefore x y → ⊥
halves x y first second (other_half one two) = omega arith
halves x y first second (same_half same left) = omega arith

pub in_one_half : (x y : Dir) → half_of x ≡ half_of y → IsBefore x y → pos 0 <ℤ cross x.a x.b y.a y.b
in_one_half x y same (other_half one two) = absurd (omega arith)
in_one_half x y same (same_half level left) = left

cross_from_up : (a b : ℤ) → pos 0 <ℤ cross (pos 0) (pos 1) a b → a <ℤ pos 0
cross_from_up a b h = omega (arith, ints)

cross_to_left : (a b : ℤ) → cross a b (negsuc 0) (pos 0) ≡ b
cross_to_left a b = omega (arith, ints)

cross_from_down : (a b : ℤ) → pos 0 <ℤ cross (pos 0) (negsuc 0) a b → pos 0 <ℤ a
cross_from_down a b h = omega (arith, ints)

cross_to_right : (a b : ℤ) → cross a b (pos 1) (pos 0) ≡ neg_ℤ b
cross_to_right a b = omega (arith, ints)

pub at_dir : (x y : Dir) (a b : ℤ) → IsDirection a b y → cross x.a x.b y.a y.b ≡ cross x.a x.b a b
at_dir x y a b is = rw (is.0, is.1) refl

pub from_dir : (x y : Dir) (a b : ℤ) → IsDirection a b x → cross x.a x.b y.a y.b ≡ cross a b y.a y.b
from_dir x y a b is = rw (is.0, is.1) refl

module _ (n t : ℕ) (side : ℕ → SideRow) (is : IsRoundBelt n t side) where
  abbrev dir : ℕ → Dir
  dir k = (side k).dir

  apart : (d i j : ℕ) → i + d ≡ j → j ≤ t → Later n (suc t) side is.follow i j
  apart d i j e low = later n (suc t) side is.follow i d j e (omega arith)

  gap : (i j : ℕ) → i ≤ j → (d : ℕ) × (i + d ≡ j)
  gap zero j low = (j, omega arith)
  gap (suc i) zero low = absurd (omega arith)
  gap (suc i) (suc j) low = let (d, e) = gap i j (omega arith) in (d, omega arith)

  -- of two sides the later one has the same direction, or a greater angle
  pub data Order (i j : ℕ) : Type 0 where
    alike : dir i ≡ dir j → Order i j
    greater : TurnsOn i (dir i) (dir j) → Order i j

  pub order : (i j : ℕ) → i ≤ j → j ≤ t → Order i j
  order i j low inside = let (d, e) = gap i j low in by (apart d i j e inside)
    where
      by : Later n (suc t) side is.follow i j → Order i j
      by (run same) = alike (sym (same j low (omega arith)))
      by (turned below turn) = greater turn

  -- a direction that is not right, behind another at a side
  not_right_behind : (k l : ℕ) → k ≤ l → (IsRight (dir k) → ⊥) → (0 < l → IsRight (dir l) → ⊥) → IsRight (dir l) → ⊥
  not_right_behind k zero low not_here none right = not_here (let e : k ≡ 0 = omega arith in subst (λ (i : ℕ). IsRight (dir i)) (sym e) right)
  not_right_behind k (suc l) low not_here none right = none (omega arith) right

  -- a full turn comes behind every other direction
  full_turn_last : (k j : ℕ) → 0 < k → k ≤ j → j ≤ t → IsRight (dir k) → IsRight (dir j)
  full_turn_last k j over low inside right = let (d, e) = gap k j low in stays_right n (suc t) side is.follow k d j e over (omega arith) right

  -- behind (0, -1) all directions point down
  points_down : (l : ℕ) → is.down ≤ l → l ≤ t → (IsRight (dir l) → ⊥) → (dir l).b <ℤ pos 0
  points_down l low inside not_right = by (order is.down l low inside)
    where
      by_angle : IsBefore (dir is.down) (dir l) → (half_of (dir l) ≡ 0) ⊎ (half_of (dir l) ≡ 1) → (dir l).b <ℤ pos 0
      by_angle angle (inl first) = absurd (halves (dir is.down) (dir l) (down_second (dir is.down) is.down_is) first angle)
      by_angle angle (inr second) =
          let left = in_one_half (dir is.down) (dir l) (down_second (dir is.down) is.down_is ∙ sym second) angle in
          let right = cross_from_down (dir l).a (dir l).b (rw (from_dir (dir is.down) (dir l) (pos 0) (negsuc 0) is.down_is) at left) in
          let half = lower (dir l) second in
          under (dir l).a (dir l).b right half
        where
          under : (a b : ℤ) → pos 0 <ℤ a → IsLower a b → b <ℤ pos 0
          under a b over half = cases (at_most_or_above (pos 0) b)
            where
              cases : (pos 0 ≤ℤ b) ⊎ (b <ℤ pos 0) → b <ℤ pos 0
              cases (inr below) = below
              cases (inl high) = absurd (let low = half.0 in let level : b ≡ pos 0 = omega (arith, ints) in let left = half.1 level in omega (arith, ints))

      by : Order is.down l → (dir l).b <ℤ pos 0
      by (alike same) = let e : (dir l).b ≡ negsuc 0 = ap (λ (d : Dir). d.b) (sym same) ∙ is.down_is.1 in omega (arith, ints)
      by (greater turn) = by_angle (angle_of is.down (dir is.down) (dir l) turn not_right) (half_cases (dir l))

  -- over (0, 1), in the upper half plane, they point up
  points_up : (l : ℕ) → is.up ≤ l → l ≤ t → half_of (dir l) ≡ 0 → (IsRight (dir l) → ⊥) → pos 0 <ℤ (dir l).b
  points_up l low inside first not_right = by (order is.up l low inside)
    where
      over : (a b : ℤ) → a <ℤ pos 0 → IsUpper a b → pos 0 <ℤ b
      over a b under half = cases (at_most_or_above b (pos 0))
        where
          cases : (b ≤ℤ pos 0) ⊎ (pos 0 <ℤ b) → pos 0 <ℤ b
          cases (inr above) = above
          cases (inl none) = absurd (let high = half.0 in let level : b ≡ pos 0 = omega (arith, ints) in let right = half.1 level in omega (arith, ints))

      by : Order is.up l → pos 0 <ℤ (dir l).b
      by (alike same) = let e : (dir l).b ≡ pos 1 = ap (λ (d : Dir). d.b) (sym same) ∙ is.up_is.1 in omega (arith, ints)
      by (greater turn) =
          let angle = angle_of is.up (dir is.up) (dir l) turn not_right in
          let left = in_one_half (dir is.up) (dir l) (up_first (dir is.up) is.up_is ∙ sym first) angle in
          over (dir l).a (dir l).b (cross_from_up (dir l).a (dir l).b (rw (from_dir (dir is.up) (dir l) (pos 0) (pos 1) is.up_is) at left)) (upper (dir l) first)

  -- from the upper half plane to the lower one the belt stops at (-1, 0)
  module _ (l : ℕ) (l_in : l < t) (turn : TurnsOn l (dir l) (dir (suc l))) (first : half_of (dir l) ≡ 0) (second : half_of (dir (suc l)) ≡ 1) where
    left_behind : is.left ≤ l → ⊥
    left_behind low = by (order is.left l low (omega arith))
      where
        by : Order is.left l → ⊥
        by (alike same) = let e : half_of (dir is.left) ≡ half_of (dir l) = ap half_of same in let one = left_second (dir is.left) is.left_is in omega arith
        by (greater further) =
            halves (dir is.left) (dir l) (left_second (dir is.left) is.left_is) first
            (angle_of is.left (dir is.left) (dir l) further
            (not_right_behind is.left l low (left_not_right (dir is.left) is.left_is) (λ over right. turn.not_round (over, right))))

    up_before : suc l ≤ is.up → ⊥
    up_before low = by (order (suc l) is.up low is.up_in)
      where
        by : Order (suc l) is.up → ⊥
        by (alike same) = let e : half_of (dir (suc l)) ≡ half_of (dir is.up) = ap half_of same in let one = up_first (dir is.up) is.up_is in omega arith
        by (greater further) =
            halves (dir (suc l)) (dir is.up) second (up_first (dir is.up) is.up_is) (angle_of (suc l) (dir (suc l)) (dir is.up) further (up_not_right (dir is.up) is.up_is))

    stops_at_left : suc l ≤ is.left → IsDirection (negsuc 0) (pos 0) (dir (suc l))
    stops_at_left low = by (order (suc l) is.left low is.left_in)
      where
        by : Order (suc l) is.left → IsDirection (negsuc 0) (pos 0) (dir (suc l))
        by (alike same) = subst (λ (d : Dir). IsDirection (negsuc 0) (pos 0) d) (sym same) is.left_is
        by (greater further) =
            let angle = angle_of (suc l) (dir (suc l)) (dir is.left) further (left_not_right (dir is.left) is.left_is) in
            let left = in_one_half (dir (suc l)) (dir is.left) (second ∙ sym (left_second (dir is.left) is.left_is)) angle in
            let over = rw (at_dir (dir (suc l)) (dir is.left) (negsuc 0) (pos 0) is.left_is, cross_to_left) at left in
            absurd (let low = (lower (dir (suc l)) second).0 in omega (arith, ints))

    crosses_over : pos 0 <ℤ cross (dir l).a (dir l).b (dir (suc l)).a (dir (suc l)).b
    crosses_over = by (cases_lt l is.left) (cases_lt l is.up)
      where
        by : (l < is.left) ⊎ (is.left ≤ l) → (l < is.up) ⊎ (is.up ≤ l) → pos 0 <ℤ cross (dir l).a (dir l).b (dir (suc l)).a (dir (suc l)).b
        by (inr low) one = absurd (left_behind low)
        by (inl high) (inl under) = absurd (up_before (omega arith))
        by (inl high) (inr over) =
            rw (at_dir (dir l) (dir (suc l)) (negsuc 0) (pos 0) (stops_at_left (omega arith)), cross_to_left)
            (points_up l over (omega arith) first
            (not_right_behind is.up l over (up_not_right (dir is.up) is.up_is) (λ more right. turn.not_round (more, right))))

  to_right : (l : ℕ) (to : Dir) → is.down ≤ l → l ≤ t → IsRight to → (IsRight (dir l) → ⊥) → pos 0 <ℤ cross (dir l).a (dir l).b to.a to.b
  to_right l to low inside right not_right =
      let under = points_down l low inside not_right in
      rw (at_dir (dir l) to (pos 1) (pos 0) right, cross_to_right) (omega (arith, ints))

  -- (0, -1) doesn't stand behind a full turn
  not_behind_full : (k : ℕ) → 0 < k → k ≤ is.down → IsRight (dir k) → ⊥
  not_behind_full k over low right = down_not_right (dir is.down) is.down_is (full_turn_last k is.down over low is.down_in right)

  turns_further_on : (l : ℕ) → l < t → TurnsOn l (dir l) (dir (suc l)) → IsRight (dir (suc l)) ⊎ (angle_cmp (dir l) (dir (suc l)) ≡ Less)
      → pos 0 <ℤ cross (dir l).a (dir l).b (dir (suc l)).a (dir (suc l)).b
  turns_further_on l inside turn (inl right) = by (cases_lt l is.down)
    where
      by : (l < is.down) ⊎ (is.down ≤ l) → pos 0 <ℤ cross (dir l).a (dir l).b (dir (suc l)).a (dir (suc l)).b
      by (inl high) = absurd (not_behind_full (suc l) (omega arith) (omega arith) right)
      by (inr low) =
          to_right l (dir (suc l)) low (omega arith) right
          (not_right_behind is.down l low (down_not_right (dir is.down) is.down_is) (λ over here. turn.not_round (over, here)))
  turns_further_on l inside turn (inr angle) = by (before (dir l) (dir (suc l)) angle)
    where
      by : IsBefore (dir l) (dir (suc l)) → pos 0 <ℤ cross (dir l).a (dir l).b (dir (suc l)).a (dir (suc l)).b
      by (same_half same left) = left
      by (other_half first second) = crosses_over l inside turn first second

  -- where the belt turns, it does so to the left by less than half a turn
  pub turns_left : (l s : ℕ) → Comes t l s → TurnsOn l (dir l) (dir s) → pos 0 <ℤ cross (dir l).a (dir l).b (dir s).a (dir s).b
  turns_left l s (comes_next k inside) turn = turns_further_on k inside turn turn.greater
  turns_left l s comes_again turn =
      to_right t (dir 0) is.down_in (omega arith) is.right (λ right. turn.not_round ((let many = is.many in omega arith), right))

  -- ---- edges: two sides of one direction, one behind the other

  pub record IsEdge (k l : ℕ) : Type 0 where
    pub low : k ≤ t
    pub comes : Comes t k l
    pub same : dir k ≡ dir l

  pub comes_in : (k l : ℕ) → Comes t k l → l ≤ t
  comes_in k l (comes_next j inside) = omega arith
  comes_in k l comes_again = omega arith

  -- three sides of one direction, two of them an edge, can't be
  no_third : (i k l : ℕ) → i < k → IsEdge k l → dir i ≡ dir k → (0 < i ⊎ (dir i ≡ dir (suc i))) → ⊥
  no_third i k l low edge same first = by k l edge.comes edge.low low edge.same same first
    where
      by : (k l : ℕ) → Comes t k l → k ≤ t → i < k → dir k ≡ dir l → dir i ≡ dir k → (0 < i ⊎ (dir i ≡ dir (suc i))) → ⊥
      by k l (comes_next j inside) in_k low level same first = is.no_three i j (suc j) low (omega arith) (omega arith) same level
      by k l comes_again in_k low level same (inl over) = is.no_three 0 i t over low (omega arith) (sym (same ∙ level)) same
      by k l comes_again in_k low level same (inr next) = by_next (cases_lt (suc i) t)
        where
          by_next : (suc i < t) ⊎ (t ≤ suc i) → ⊥
          by_next (inl three) = is.no_three i (suc i) t (omega arith) three (omega arith) next (sym next ∙ same)
          by_next (inr late) = is.no_three 0 i t (let many = is.many in omega arith) low (omega arith) (sym (same ∙ level)) same

  -- the side behind an edge turns on, at the edge's second corner
  pub turns_behind : (k l s : ℕ) → IsEdge k l → Comes t l s → MayFollow n l (side l) (side s) → ((side l).corner ≡ (side s).corner) × TurnsOn l (dir l) (dir s)
  turns_behind k l s edge comes (inl here) = here
  turns_behind k l s edge comes (inr (same, _)) = absurd (by (cases edge.comes) (cases comes))
    where
      cases : {i j : ℕ} → Comes t i j → ((i < t) × (j ≡ suc i)) ⊎ ((i ≡ t) × (j ≡ 0))
      cases (comes_next i inside) = inl (inside, refl)
      cases comes_again = inr (refl, refl)

      by : ((k < t) × (l ≡ suc k)) ⊎ ((k ≡ t) × (l ≡ 0)) → ((l < t) × (s ≡ suc l)) ⊎ ((l ≡ t) × (s ≡ 0)) → ⊥
      by (inl (one, first)) (inl (two, second)) = is.no_three k l s (omega arith) (omega arith) (omega arith) edge.same same
      by (inl (one, first)) (inr (last, second)) =
          is.no_three s k l (let many = is.many in omega arith) (omega arith) (omega arith) (sym (edge.same ∙ same)) edge.same
      by (inr (last, first)) (inl (two, second)) =
          is.no_three l s k (omega arith) (let many = is.many in omega arith) (omega arith) same (sym (edge.same ∙ same))
      by (inr (last, first)) (inr (again, second)) = let many = is.many in omega arith

  pub follows : (l s : ℕ) → Comes t l s → MayFollow n l (side l) (side s)
  follows l s (comes_next k inside) = is.follow k (omega arith)
  follows l s comes_again = is.close

  pub some_behind : (l : ℕ) → l ≤ t → (s : ℕ) × Comes t l s
  some_behind l low = by (cases_lt l t)
    where
      by : (l < t) ⊎ (t ≤ l) → (s : ℕ) × Comes t l s
      by (inl inside) = (suc l, comes_next l inside)
      by (inr last) = let e : t ≡ l = omega arith in (0, subst (λ (i : ℕ). Comes t i 0) e comes_again)

  -- ---- no direction is 0

  nothing_before : (x y : Dir) → IsDirection (pos 0) (pos 0) x → IsBefore x y → ⊥
  nothing_before x y none (other_half first second) = let high = (upper x first).1 none.1 in let level = none.0 in omega (arith, ints)
  nothing_before x y none (same_half same left) = let gone = rw (from_dir x y (pos 0) (pos 0) none) at left in omega (arith, ints)

  before_nothing : (x y : Dir) → half_of x ≡ 1 → IsDirection (pos 0) (pos 0) y → IsBefore x y → ⊥
  before_nothing x y half none (other_half first second) = omega arith
  before_nothing x y half none (same_half same left) = let gone = rw (at_dir x y (pos 0) (pos 0) none) at left in no_area x.a x.b gone
    where
      no_area : (a b : ℤ) → pos 0 <ℤ cross a b (pos 0) (pos 0) → ⊥
      no_area a b h = let given = simp ring_laws at h in omega (arith, linear)

  pub not_nothing : (k : ℕ) → k ≤ t → IsDirection (pos 0) (pos 0) (dir k) → ⊥
  not_nothing k low none = by (cases_lt is.left k)
    where
      not_left : dir k ≡ dir is.left → ⊥
      not_left same = let e : pos 0 ≡ negsuc 0 = sym none.0 ∙ (ap (λ (d : Dir). d.a) same ∙ is.left_is.0) in cc

      not_right : IsRight (dir k) → ⊥
      not_right right = let e : pos 0 ≡ pos 1 = sym none.0 ∙ right.0 in cc

      earlier : Order k is.left → ⊥
      earlier (alike same) = not_left same
      earlier (greater turn) = nothing_before (dir k) (dir is.left) none (angle_of k (dir k) (dir is.left) turn (left_not_right (dir is.left) is.left_is))

      after : Order is.left k → ⊥
      after (alike same) = not_left (sym same)
      after (greater turn) = before_nothing (dir is.left) (dir k) (left_second (dir is.left) is.left_is) none (angle_of is.left (dir is.left) (dir k) turn not_right)

      by : (is.left < k) ⊎ (k ≤ is.left) → ⊥
      by (inl over) = after (order is.left k (omega arith) low)
      by (inr under) = earlier (order k is.left under is.left_in)

  -- ---- edges of different corners are no positive multiples of one direction

  first_place : (k k' l : ℕ) → k < k' → k' ≤ t → IsEdge k l → 0 < k ⊎ (dir k ≡ dir (suc k))
  first_place k k' l low inside edge = by k l edge.comes edge.same low
    where
      by : (k l : ℕ) → Comes t k l → dir k ≡ dir l → k < k' → 0 < k ⊎ (dir k ≡ dir (suc k))
      by k l (comes_next j one) same below = inr same
      by k l comes_again same below = absurd (omega arith)

  not_alike : (k l k' l' : ℕ) → k < k' → IsEdge k l → IsEdge k' l' → dir k ≡ dir k' → ⊥
  not_alike k l k' l' low edge other same = no_third k k' l' low other same (first_place k k' l low other.low edge)

  opposite_right : (k : ℕ) → 0 < k → k ≤ t → (IsRight (dir k) → ⊥) → (dir k).b ≡ pos 0 → (dir k).a <ℤ pos 0
  opposite_right k over low not_right level = by (order 0 k (omega arith) low)
    where
      under : IsLower (dir k).a (dir k).b → (dir k).a <ℤ pos 0
      under half = cases (at_most_or_above (pos 0) (dir k).a)
        where
          cases : (pos 0 ≤ℤ (dir k).a) ⊎ ((dir k).a <ℤ pos 0) → (dir k).a <ℤ pos 0
          cases (inr below) = below
          cases (inl high) =
              let small = half.1 level in
              absurd (not_nothing k low ((let e : (dir k).a ≡ pos 0 = omega (arith, ints) in e), level))

      by_angle : IsBefore (dir 0) (dir k) → (dir k).a <ℤ pos 0
      by_angle (other_half first second) = under (lower (dir k) second)
      by_angle (same_half same left) =
          let gone = rw (from_dir (dir 0) (dir k) (pos 1) (pos 0) is.right) at left in
          absurd (omega (arith, ints))

      by : Order 0 k → (dir k).a <ℤ pos 0
      by (alike same) = absurd (not_right (right_too _ _ same is.right))
      by (greater turn) = by_angle (angle_of 0 (dir 0) (dir k) turn not_right)

  pub opposite : (k l k' l' : ℕ) → k < k' → IsEdge k l → IsEdge k' l' → cross (dir k).a (dir k).b (dir k').a (dir k').b ≡ pos 0
      → dot (dir k).a (dir k).b (dir k').a (dir k').b <ℤ pos 0
  opposite k l k' l' low edge other parallel = by (order k k' (omega arith) other.low)
    where
      by_angle : IsBefore (dir k) (dir k') → dot (dir k).a (dir k).b (dir k').a (dir k').b <ℤ pos 0
      by_angle (other_half first second) =
          opposite_halves (dir k).a (dir k).b (dir k').a (dir k').b (upper (dir k) first) (lower (dir k') second)
          (λ a_0 b_0. not_nothing k' other.low (a_0, b_0)) parallel
      by_angle (same_half same left) = absurd (omega (arith, ints))

      to_right_again : TurnsOn k (dir k) (dir k') → IsRight (dir k') → (0 < k) ⊎ (k ≤ 0) → dot (dir k).a (dir k).b (dir k').a (dir k').b <ℤ pos 0
      to_right_again turn right (inl over) =
          let level : (dir k).b ≡ pos 0 = (let gone = rw (at_dir (dir k) (dir k') (pos 1) (pos 0) right, cross_to_right) at parallel in omega (arith, ints)) in
          let under = opposite_right k over (omega arith) (λ here. turn.not_round (over, here)) level in
          rw (right.0, right.1, level) (omega (arith, ints))
      to_right_again turn right (inr first) =
          let e : 0 ≡ k = omega arith in
          absurd (not_alike k l k' l' low edge other (both_right _ _ (subst (λ (i : ℕ). IsRight (dir i)) e is.right) right))

      by_turn : TurnsOn k (dir k) (dir k') → IsRight (dir k') ⊎ (angle_cmp (dir k) (dir k') ≡ Less) → dot (dir k).a (dir k).b (dir k').a (dir k').b <ℤ pos 0
      by_turn turn (inl right) = to_right_again turn right (cases_lt 0 k)
      by_turn turn (inr angle) = by_angle (before (dir k) (dir k') angle)

      by : Order k k' → dot (dir k).a (dir k).b (dir k').a (dir k').b <ℤ pos 0
      by (alike same) = absurd (not_alike k l k' l' low edge other same)
      by (greater turn) = by_turn turn turn.greater
