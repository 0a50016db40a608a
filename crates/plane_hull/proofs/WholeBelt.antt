-- Sides are a belt exactly where each is in turn and the rules on the whole are kept, side by side with their neighbours.
use Rattle.std.proofs.Common.{◌≡◌, ◌≢◌, ◌⊎◌, inl, inr, ℕ, zero, suc, ◌+◌, ◌-◌, ◌<◌, ◌≤◌, List, length, slice_get, get_or, Some, refl, sym, ◌∙◌, subst, ap, arith}
use Rattle.std.proofs.lemmas.Option.{same_Some, slice_get_within, slice_get-get_or, get_or_from_slice_get}
use Rattle.plane_hull.specs.declared.directions.Dir.{Dir}
use Rattle.plane_hull.specs.declared.sides.Point.{Point}
use Rattle.plane_hull.specs.declared.sides.SideRow.{SideRow}
use Rattle.plane_hull.specs.Belt.{DirectionsPairUp, HasAxes, HasTwin, IsAxis, IsBelt, IsNext, IsRight, MayFollow, PointsDiffer}
use Rattle.plane_hull.specs.BeltFault.{IsInTurn}
use Rattle.plane_hull.specs.Round.{IsWhole, PairsUp, PairsWith}
use Rattle.plane_hull.proofs.Twins.{at_most_two, corners_differ, twin}

-- ---- the sides as a function of their number

at_place : (sides : List SideRow) (d : SideRow) (k : ℕ) (side : SideRow) → slice_get sides k ≡ Some side → get_or sides k d ≡ side
at_place sides d k side at = get_or_from_slice_get sides k side d at

pub same_side : (sides : List SideRow) (j k : ℕ) (x y : SideRow) → j ≡ k → slice_get sides j ≡ Some x → slice_get sides k ≡ Some y → x ≡ y
same_side sides j k x y e at_x at_y = same_Some x y (sym at_x ∙ (ap (λ (n : ℕ). slice_get sides n) e ∙ at_y))

-- ---- the axes stand at sides apart

pub three_sides : (sides : List SideRow) → HasAxes sides → 3 ≤ length sides
three_sides sides axes =
    let (i, x, at_x, x_up) = axes.up in
    let (j, y, at_y, y_left) = axes.left in
    let (k, z, at_z, z_down) = axes.down in
    let one : i ≢ j = λ e. let s = same_side sides i j x y e at_x at_y in cc in
    let two : i ≢ k = λ e. let s = same_side sides i k x z e at_x at_z in cc in
    let three : j ≢ k = λ e. let s = same_side sides j k y z e at_y at_z in cc in
    let i_in = slice_get_within sides i x at_x in
    let j_in = slice_get_within sides j y at_y in
    let k_in = slice_get_within sides k z at_z in
    omega arith

-- ---- each side of a belt is in turn

pub turn_of : (points : List Point) (sides : List SideRow) → IsBelt points sides → (k : ℕ) → IsInTurn points sides k
turn_of points sides belt zero = belt.begins
turn_of points sides belt (suc k) = λ from to at_from at_to. (
  belt.follows k from to at_from at_to,
  belt.parts k (suc k) from to (inl (let inside = slice_get_within sides (suc k) to at_to in omega arith, omega arith)) at_from at_to,
)

-- ---- a belt is whole

module _ (sides : List SideRow) (many : 3 ≤ length sides) (pairs : DirectionsPairUp sides) where
  not_three : (j n k : ℕ) (before here behind : SideRow) → IsNext (length sides) j n → IsNext (length sides) n k
      → slice_get sides j ≡ Some before → slice_get sides n ≡ Some here → slice_get sides k ≡ Some behind
      → before.dir ≡ here.dir → here.dir ≡ behind.dir → ⊥
  not_three j n k x y z (inl (_, first)) (inl (_, second)) at_x at_y at_z one two =
      pairs.at_most_two j n k x y z (omega arith) (omega arith) at_x at_y at_z one two
  not_three j n k x y z (inr (last, first)) (inl (_, second)) at_x at_y at_z one two =
      pairs.at_most_two n k j y z x (omega arith) (omega arith) at_y at_z at_x two (sym (one ∙ two))
  not_three j n k x y z (inl (_, first)) (inr (last, second)) at_x at_y at_z one two =
      pairs.at_most_two k j n z x y (omega arith) (omega arith) at_z at_x at_y (sym (one ∙ two)) one
  not_three j n k x y z (inr (last, first)) (inr (only, second)) at_x at_y at_z one two = absurd (omega arith)

  corners_part : (n k : ℕ) (here behind : SideRow) → IsNext (length sides) n k
      → slice_get sides n ≡ Some here → slice_get sides k ≡ Some behind → here.dir ≡ behind.dir → here.corner ≢ behind.corner
  corners_part n k y z (inl (_, second)) at_y at_z same = pairs.corners_differ n k y z (omega arith) at_y at_z same
  corners_part n k y z (inr (last, second)) at_y at_z same =
      λ level. pairs.corners_differ k n z y (omega arith) at_z at_y (sym same) (sym level)

  has_twin : (j n k : ℕ) (before here behind : SideRow) → IsNext (length sides) j n → IsNext (length sides) n k
      → slice_get sides j ≡ Some before → slice_get sides n ≡ Some here → slice_get sides k ≡ Some behind
      → IsAxis here.dir ⊎ HasTwin sides n here.dir → IsAxis here.dir ⊎ ((before.dir ≡ here.dir) ⊎ (here.dir ≡ behind.dir))
  has_twin j n k x y z first second at_x at_y at_z (inl axis) = inl axis
  has_twin j n k x y z first (inl (_, up)) at_x at_y at_z (inr (i, other, inl next, at, same)) =
      inr (inr (sym same ∙ ap (λ (s : SideRow). s.dir) (same_side sides i k other z (omega arith) at at_z)))
  has_twin j n k x y z first (inr (last, _)) at_x at_y at_z (inr (i, other, inl next, at, same)) =
      absurd (let inside = slice_get_within sides i other at in omega arith)
  has_twin j n k x y z (inl (_, up)) second at_x at_y at_z (inr (i, other, inr next, at, same)) =
      inr (inl (ap (λ (s : SideRow). s.dir) (same_side sides j i x other (omega arith) at_x at) ∙ same))
  has_twin j n k x y z (inr (_, start)) second at_x at_y at_z (inr (i, other, inr next, at, same)) = absurd (omega arith)

  pub pairs_up : (n : ℕ) → PairsUp sides n
  pairs_up n = λ j k before here behind first second at_before at_here at_behind. record {
    not_three = not_three j n k before here behind first second at_before at_here at_behind;
    parts = corners_part n k here behind second at_here at_behind;
    twin = has_twin j n k before here behind first second at_before at_here at_behind (pairs.two_in_a_row n here at_here);
  }

pub whole_of : (points : List Point) (sides : List SideRow) → IsBelt points sides → IsWhole points sides
whole_of points sides belt = record {
  axes = belt.axes;
  closes = λ k last first end at_last at_first. (
    belt.closes k last first end at_last at_first,
    belt.parts k 0 last first (inr (omega arith, refl)) at_last at_first,
  );
  once = belt.once;
  pairs = pairs_up sides (three_sides sides belt.axes) belt.pairs;
}

-- ---- and the other way

module _ (points : List Point) (sides : List SideRow) (turns : (k : ℕ) → k < length sides → IsInTurn points sides k) (whole : IsWhole points sides) where
  many : 3 ≤ length sides
  many = three_sides sides whole.axes

  up : SideRow
  up = whole.axes.up.1

  side : ℕ → SideRow
  side k = get_or sides k up

  placed : (k : ℕ) → k < length sides → slice_get sides k ≡ Some (side k)
  unfolding side
  placed k inside = slice_get-get_or sides k up inside

  found : (k : ℕ) (x : SideRow) → slice_get sides k ≡ Some x → side k ≡ x
  unfolding side
  found k x at = at_place sides up k x at

  follow : (k : ℕ) → suc k < length sides → MayFollow (length points) k (side k) (side (suc k))
  follow k inside = (turns (suc k) inside (side k) (side (suc k)) (placed k (omega arith)) (placed (suc k) inside)).0

  right : IsRight (side 0).dir
  right = let many = many in (turns 0 (omega arith) (side 0) (placed 0 (omega arith))).0

  pairs : (j k l : ℕ) → j < length sides → k < length sides → l < length sides → IsNext (length sides) j k → IsNext (length sides) k l
      → PairsWith (side j) (side k) (side l)
  pairs j k l j_in k_in l_in first second =
      whole.pairs k j l (side j) (side k) (side l) first second (placed j j_in) (placed k k_in) (placed l l_in)

  dir_found : (k : ℕ) (x : SideRow) → slice_get sides k ≡ Some x → (side k).dir ≡ x.dir
  dir_found k x at = ap (λ (s : SideRow). s.dir) (found k x at)

  no_three : (i j k : ℕ) (x y z : SideRow) → i < j → j < k → slice_get sides i ≡ Some x → slice_get sides j ≡ Some y → slice_get sides k ≡ Some z
      → x.dir ≡ y.dir → y.dir ≡ z.dir → ⊥
  no_three i zero k x y z low high at_x at_y at_z first second = absurd (omega arith)
  no_three i (suc p) k x y z low high at_x at_y at_z first second =
      let inside = slice_get_within sides k z at_z in
      let e : suc p + suc (k - suc (suc p)) ≡ k = omega arith in
      at_most_two (length points) (length sides) side follow right pairs i p (k - suc (suc p)) (length sides - suc k) (omega arith) (omega arith)
      (dir_found i x at_x ∙ (first ∙ sym (dir_found (suc p) y at_y)))
      (subst (λ (n : ℕ). (side (suc p)).dir ≡ (side n).dir) (sym e) (dir_found (suc p) y at_y ∙ (second ∙ sym (dir_found k z at_z))))

  differ : (i j : ℕ) (x y : SideRow) → i < j → slice_get sides i ≡ Some x → slice_get sides j ≡ Some y → x.dir ≡ y.dir → x.corner ≢ y.corner
  differ i j x y low at_x at_y same = λ level.
      corners_differ (length points) (length sides) side follow right pairs i (j - suc i) j (omega arith) (slice_get_within sides j y at_y)
      (dir_found i x at_x ∙ (same ∙ sym (dir_found j y at_y)))
      (ap (λ (s : SideRow). s.corner) (found i x at_x) ∙ (level ∙ sym (ap (λ (s : SideRow). s.corner) (found j y at_y))))

  in_a_row : (k : ℕ) (x : SideRow) → slice_get sides k ≡ Some x → IsAxis x.dir ⊎ HasTwin sides k x.dir
  in_a_row k x at = by (twin (length points) (length sides) side follow right pairs k (slice_get_within sides k x at))
    where
      by : IsAxis (side k).dir ⊎ ((j : ℕ) × (j < length sides) × ((j ≡ suc k) ⊎ (k ≡ suc j)) × ((side j).dir ≡ (side k).dir)) → IsAxis x.dir ⊎ HasTwin sides k x.dir
      by (inl axis) = inl (subst (λ (dir : Dir). IsAxis dir) (dir_found k x at) axis)
      by (inr (j, inside, next, same)) = inr (j, side j, next, placed j inside, same ∙ dir_found k x at)

  part : (j k : ℕ) (from to : SideRow) → IsNext (length sides) j k → slice_get sides j ≡ Some from → slice_get sides k ≡ Some to → PointsDiffer points from to
  part j k from to (inl (inside, up)) at_from at_to =
      let e : k ≡ suc j = omega arith in
      (turns (suc j) (omega arith) from to at_from (subst (λ (n : ℕ). slice_get sides n ≡ Some to) e at_to)).1
  part j k from to (inr (last, start)) at_from at_to =
      (whole.closes j from to (omega arith) at_from (subst (λ (n : ℕ). slice_get sides n ≡ Some to) start at_to)).1

  pub belt_from : IsBelt points sides
  belt_from = record {
    begins = let many = many in turns 0 (omega arith);
    follows = λ k from to at_from at_to. (turns (suc k) (slice_get_within sides (suc k) to at_to) from to at_from at_to).0;
    axes = whole.axes;
    closes = λ k last first end at_last at_first. (whole.closes k last first end at_last at_first).0;
    once = whole.once;
    pairs = record { at_most_two = no_three; corners_differ = differ; two_in_a_row = in_a_row };
    parts = part;
  }
