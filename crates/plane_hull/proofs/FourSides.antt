-- Round one corner each direction stands at one side, so that all are axes; they stand in the order of their angles.
use Rattle.std.proofs.Common.{◌≡◌, ◌≢◌, ◌⊎◌, inl, inr, ℕ, zero, suc, ◌-◌, ◌<◌, ◌≤◌, List, length, slice_get, get_or, Some, refl, sym, ◌∙◌, ap, subst, ℤ, pos, negsuc, arith}
use Rattle.std.proofs.lemmas.Bool.{cases_order}
use Rattle.std.proofs.lemmas.Int.{ints}
use Rattle.std.proofs.lemmas.Option.{slice_get_within}
use Rattle.plane_hull.specs.declared.directions.Dir.{Dir}
use Rattle.plane_hull.specs.declared.sides.Point.{Point}
use Rattle.plane_hull.specs.declared.sides.SideRow.{SideRow}
use Rattle.plane_hull.specs.Belt.{AreFourAxes, HasTwin, IsAxis, IsBelt, IsDirection, IsRight, StandAtCorners}
use Rattle.plane_hull.proofs.RoundBelt.{IsRoundBelt, Order, alike, angle_of, down_second, from_dir, greater, halves, in_one_half, left_not_right, left_second, order, up_first, up_not_right}
use Rattle.plane_hull.proofs.SameDirection.{same_dir}
use Rattle.plane_hull.proofs.SidesOfBelt.{round_of, side_found, side_placed, sides_long}

same_as : (a b : ℤ) (x y : Dir) → IsDirection a b x → IsDirection a b y → x ≡ y
same_as a b x y first second = same_dir x y (first.0 ∙ sym second.0) (first.1 ∙ sym second.1)

-- a number is 0 or one of three others
abbrev IsOneOf : ℕ → ℕ → ℕ → ℕ → Type 0
IsOneOf u l d k = (k ≡ 0) ⊎ ((k ≡ u) ⊎ ((k ≡ l) ⊎ (k ≡ d)))

module _ (points : List Point) (sides : List SideRow) (single : length points ≡ 1) (stand : StandAtCorners 1 sides) (belt : IsBelt points sides) where
  abbrev t : ℕ
  t = length sides - 1

  abbrev side : ℕ → SideRow
  side k = get_or sides k belt.axes.up.1

  is : IsRoundBelt (length points) t side
  is = round_of points sides belt

  at_0 : (k : ℕ) (s : SideRow) → slice_get sides k ≡ Some s → s.corner ≡ 0
  at_0 k s at = let low = stand k s at in omega arith

  -- one side a direction
  alone : (i j : ℕ) → i ≤ t → j ≤ t → (side i).dir ≡ (side j).dir → i ≡ j
  alone i j i_in j_in same = by (cases_order i j)
    where
      apart : (i j : ℕ) → i < j → j ≤ t → (side i).dir ≡ (side j).dir → ⊥
      apart i j low high level =
          let at_i = side_placed points sides belt i (omega arith) in
          let at_j = side_placed points sides belt j high in
          belt.pairs.corners_differ i j (side i) (side j) low at_i at_j level (at_0 i (side i) at_i ∙ sym (at_0 j (side j) at_j))

      by : (i ≡ j) ⊎ ((i < j) ⊎ (j < i)) → i ≡ j
      by (inl e) = e
      by (inr (inl low)) = absurd (apart i j low j_in same)
      by (inr (inr low)) = absurd (apart j i low i_in (sym same))

  axis : (k : ℕ) → k ≤ t → IsAxis (side k).dir
  axis k low = by (belt.pairs.two_in_a_row k (side k) (side_placed points sides belt k low))
    where
      by : IsAxis (side k).dir ⊎ HasTwin sides k (side k).dir → IsAxis (side k).dir
      by (inl h) = h
      by (inr (j, other, next, at, same)) =
          let inside = slice_get_within sides j other at in
          let long = sides_long points sides belt in
          let e = alone j k (omega arith) low (ap (λ (s : SideRow). s.dir) (side_found points sides belt j other at) ∙ same) in
          absurd (far next e)
        where
          far : (j ≡ suc k) ⊎ (k ≡ suc j) → j ≡ k → ⊥
          far (inl up) e = omega arith
          far (inr down) e = omega arith

  one_of : (k : ℕ) → k ≤ t → IsOneOf is.up is.left is.down k
  one_of k low = by (axis k low)
    where
      by : IsAxis (side k).dir → IsOneOf is.up is.left is.down k
      by (inl right) = inl (alone k 0 low (omega arith) (same_as (pos 1) (pos 0) _ _ right is.right))
      by (inr (inl up)) = inr (inl (alone k is.up low is.up_in (same_as (pos 0) (pos 1) _ _ up is.up_is)))
      by (inr (inr (inl left))) = inr (inr (inl (alone k is.left low is.left_in (same_as (negsuc 0) (pos 0) _ _ left is.left_is))))
      by (inr (inr (inr down))) = inr (inr (inr (alone k is.down low is.down_in (same_as (pos 0) (negsuc 0) _ _ down is.down_is))))

  -- what stands later isn't one of two directions that come before
  up_over_0 : 0 < is.up
  up_over_0 = by is.up refl
    where
      by : (k : ℕ) → k ≡ is.up → 0 < is.up
      by zero e = absurd (up_not_right (side is.up).dir is.up_is (subst (λ (i : ℕ). IsRight (side i).dir) e is.right))
      by (suc k) e = omega arith

  not_left_first : is.left < is.up → ⊥
  not_left_first low = by (order (length points) t side is is.left is.up (omega arith) is.up_in)
    where
      by : Order (length points) t side is is.left is.up → ⊥
      by (alike same) = omega (arith, alone is.left is.up is.left_in is.up_in same)
      by (greater turn) =
          halves (side is.left).dir (side is.up).dir (left_second (side is.left).dir is.left_is) (up_first (side is.up).dir is.up_is)
          (angle_of is.left (side is.left).dir (side is.up).dir turn (up_not_right (side is.up).dir is.up_is))

  not_down_first : is.down < is.left → ⊥
  not_down_first low = by (order (length points) t side is is.down is.left (omega arith) is.left_in)
    where
      by : Order (length points) t side is is.down is.left → ⊥
      by (alike same) = omega (arith, alone is.down is.left is.down_in is.left_in same)
      by (greater turn) =
          let d = (side is.down).dir in
          let l = (side is.left).dir in
          let over = in_one_half d l (down_second d is.down_is ∙ sym (left_second l is.left_is)) (angle_of is.down d l turn (left_not_right l is.left_is)) in
          let from = rw (from_dir d l (pos 0) (negsuc 0) is.down_is, is.left_is.0, is.left_is.1) at over in
          omega (arith, ints)

  differ : is.up ≢ is.left
  differ e =
      let s : (side is.up).dir ≡ (side is.left).dir = ap (λ (i : ℕ). (side i).dir) e in
      let b : pos 1 ≡ pos 0 = sym is.up_is.1 ∙ (ap (λ (d : Dir). d.b) s ∙ is.left_is.1) in
      cc

  also_differ : is.left ≢ is.down
  also_differ e =
      let s : (side is.left).dir ≡ (side is.down).dir = ap (λ (i : ℕ). (side i).dir) e in
      let b : pos 0 ≡ negsuc 0 = sym is.left_is.1 ∙ (ap (λ (d : Dir). d.b) s ∙ is.down_is.1) in
      cc

  in_order : (is.up < is.left) × (is.left < is.down)
  in_order = (first (cases_order is.up is.left), second (cases_order is.left is.down))
    where
      first : (is.up ≡ is.left) ⊎ ((is.up < is.left) ⊎ (is.left < is.up)) → is.up < is.left
      first (inl e) = absurd (differ e)
      first (inr (inl low)) = low
      first (inr (inr high)) = absurd (not_left_first high)

      second : (is.left ≡ is.down) ⊎ ((is.left < is.down) ⊎ (is.down < is.left)) → is.left < is.down
      second (inl e) = absurd (also_differ e)
      second (inr (inl low)) = low
      second (inr (inr high)) = absurd (not_down_first high)

  -- numbers in a row that are among four rising ones
  row : (t u l d : ℕ) → 0 < u → u < l → l < d → d ≤ t → ((k : ℕ) → k ≤ t → IsOneOf u l d k) → (t ≡ 3) × (u ≡ 1) × (l ≡ 2) × (d ≡ 3)
  row t u l d over low more high each =
      (top (each 1 (omega arith)) (each 2 (omega arith)) (each 3 (omega arith)) (cases_order t 3), at_1 (each 1 (omega arith)), at_2 (each 1 (omega arith)) (each 2 (omega arith)), at_3 (each 1 (omega arith)) (each 2 (omega arith)) (each 3 (omega arith)))
    where
      at_1 : IsOneOf u l d 1 → u ≡ 1
      at_1 (inl e) = omega arith
      at_1 (inr (inl e)) = omega arith
      at_1 (inr (inr (inl e))) = omega arith
      at_1 (inr (inr (inr e))) = omega arith

      at_2 : IsOneOf u l d 1 → IsOneOf u l d 2 → l ≡ 2
      at_2 one (inl e) = omega arith
      at_2 one (inr (inl e)) = omega (arith, at_1 one)
      at_2 one (inr (inr (inl e))) = omega arith
      at_2 one (inr (inr (inr e))) = omega (arith, at_1 one)

      at_3 : IsOneOf u l d 1 → IsOneOf u l d 2 → IsOneOf u l d 3 → d ≡ 3
      at_3 one two (inl e) = omega arith
      at_3 one two (inr (inl e)) = omega (arith, at_1 one)
      at_3 one two (inr (inr (inl e))) = omega (arith, at_2 one two)
      at_3 one two (inr (inr (inr e))) = omega arith

      no_fourth : IsOneOf u l d 4 → u ≡ 1 → l ≡ 2 → d ≡ 3 → ⊥
      no_fourth (inl e) at_u at_l at_d = omega arith
      no_fourth (inr (inl e)) at_u at_l at_d = omega arith
      no_fourth (inr (inr (inl e))) at_u at_l at_d = omega arith
      no_fourth (inr (inr (inr e))) at_u at_l at_d = omega arith

      top : IsOneOf u l d 1 → IsOneOf u l d 2 → IsOneOf u l d 3 → (t ≡ 3) ⊎ ((t < 3) ⊎ (3 < t)) → t ≡ 3
      top one two three (inl e) = e
      top one two three (inr (inl less)) = omega (arith, at_3 one two three)
      top one two three (inr (inr over)) = absurd (no_fourth (each 4 (omega arith)) (at_1 one) (at_2 one two) (at_3 one two three))

  pub four_sides : AreFourAxes sides
  four_sides =
      let ordered = in_order in
      let (t_is, up_at, left_at, down_at) = row t is.up is.left is.down up_over_0 ordered.0 ordered.1 is.down_in one_of in
      let long = sides_long points sides belt in
      record {
        four = omega arith;
        right = λ s at. subst (λ (x : SideRow). IsRight x.dir) (side_found points sides belt 0 s at) is.right;
        up = λ s at. subst (λ (x : SideRow). IsDirection (pos 0) (pos 1) x.dir) (side_found points sides belt 1 s at) (subst (λ (i : ℕ). IsDirection (pos 0) (pos 1) (side i).dir) up_at is.up_is);
        left = λ s at. subst (λ (x : SideRow). IsDirection (negsuc 0) (pos 0) x.dir) (side_found points sides belt 2 s at) (subst (λ (i : ℕ). IsDirection (negsuc 0) (pos 0) (side i).dir) left_at is.left_is);
        down = λ s at. subst (λ (x : SideRow). IsDirection (pos 0) (negsuc 0) x.dir) (side_found points sides belt 3 s at) (subst (λ (i : ℕ). IsDirection (pos 0) (negsuc 0) (side i).dir) down_at is.down_is);
        corner = at_0;
      }
