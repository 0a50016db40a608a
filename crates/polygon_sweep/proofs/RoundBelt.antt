-- Sides that come about while a direction turns once round are a belt: each is in turn, and the first follows the last.
use Rattle.std.proofs.Common.{◌≡◌, ◌≢◌, ◌⊎◌, inl, inr, ℕ, zero, suc, ◌<◌, ◌≤◌, Bool, false, List, [], ◌∷◌, ◌++◌, slice_get, Some, length, sym, ◌∙◌, subst, arith}
use Rattle.std.proofs.lemmas.Option.{same_Some, slice_get_within}
use Rattle.plane_hull.specs.declared.directions.Dir.{Dir}
use Rattle.plane_hull.specs.declared.sides.Point.{Point}
use Rattle.plane_hull.specs.declared.sides.SideRow.{SideRow}
use Rattle.plane_hull.specs.Belt.{Begins, GoesRoundOnce, HasAxes, IsAxis, IsBelt, IsNext, IsRight, MayFollow, PointsDiffer}
use Rattle.plane_hull.specs.BeltFault.{IsInTurn}
use Rattle.plane_hull.specs.Round.{PairsUp, PairsWith}
use Rattle.plane_hull.proofs.Runs.{both_right, right_too}
use Rattle.plane_hull.proofs.WholeBelt.{belt_from, three_sides}
use Rattle.polygon_sweep.specs.Round.{GoneRound, at_first, at_last}
use Rattle.polygon_sweep.proofs.RoundAxes.{round_axes}
use Rattle.polygon_sweep.proofs.RoundCorners.{IsBegun, begun, round_begun, round_once}
use Rattle.polygon_sweep.proofs.RoundLists.{EachThree, EndsInTwo, added_or_stood, longer, push_end_two, push_three, stood}
use Rattle.polygon_sweep.proofs.RoundTurns.{AreInRow, HasEdge, Joins, Leads, in_row, leads_along, turns_there}

-- ---- from neighbours to the belt

-- each side follows the one before it and the first the last, at points apart; each pairs with its neighbours
record IsRound (points : List Point) (count : ℕ) (sides : List SideRow) : Type 0 where
  begun : IsBegun sides
  axes : HasAxes sides
  once : GoesRoundOnce count sides
  follows : (k : ℕ) (from to : SideRow) → slice_get sides k ≡ Some from → slice_get sides (suc k) ≡ Some to
      → MayFollow count k from to × PointsDiffer points from to
  closes : (k : ℕ) (last first : SideRow) → suc k ≡ length sides → slice_get sides k ≡ Some last → slice_get sides 0 ≡ Some first
      → MayFollow count k last first × PointsDiffer points last first
  paired : EachThree PairsWith sides
  second : (side : SideRow) → slice_get sides 1 ≡ Some side → IsRight side.dir → ⊥
  ending : (first : SideRow) → slice_get sides 0 ≡ Some first → EndsInTwo (λ before last. PairsWith before last first) sides

begins_of : (sides : List SideRow) → IsBegun sides → Begins sides
begins_of sides begun first at =
    let found : Some begun.first ≡ Some first = subst (λ (list : List SideRow). slice_get list 0 ≡ Some first) begun.is at in
    let same : begun.first ≡ first = same_Some begun.first first found in
    subst (λ (side : SideRow). IsRight side.dir × (side.corner ≡ 0)) same (begun.right, begun.corner)

at_place : (sides : List SideRow) (j k : ℕ) (side : SideRow) → j ≡ k → slice_get sides j ≡ Some side → slice_get sides k ≡ Some side
at_place sides j k side same at = subst (λ (n : ℕ). slice_get sides n ≡ Some side) same at

module _ (points : List Point) (sides : List SideRow) (round : IsRound points (length points) sides) where
  turns : (k : ℕ) → k < length sides → IsInTurn points sides k
  turns zero inside = begins_of sides round.begun
  turns (suc k) inside = round.follows k

  pairs : (k : ℕ) → PairsUp sides k
  pairs k j l x y z first second at_x at_y at_z = by first second
    where
      by : IsNext (length sides) j k → IsNext (length sides) k l → PairsWith x y z
      by (inl (_, up)) (inl (_, more)) =
          round.paired.each j x y z at_x (at_place sides k (suc j) y (omega arith) at_y)
          (at_place sides l (suc (suc j)) z (omega arith) at_z)
      by (inl (_, up)) (inr (end, start)) =
          (round.ending z (at_place sides l 0 z start at_z)).last j x y (omega arith) at_x (at_place sides k (suc j) y (omega arith) at_y)
      by (inr (end, start)) (inl (_, more)) =
          let right = (begins_of sides round.begun y (at_place sides k 0 y start at_y)).0 in
          let not_right = round.second z (at_place sides l 1 z (omega arith) at_z) in
          record {
            not_three = λ _ same. not_right (right_too y.dir z.dir same right);
            parts = λ same. absurd (not_right (right_too y.dir z.dir same right));
            twin = inl (inl right);
          }
      by (inr (end, start)) (inr (only, again)) = absurd (let many = three_sides sides round.axes in omega arith)

  belt_of_round : IsBelt points sides
  belt_of_round = belt_from points sides turns (record { axes = round.axes; closes = round.closes; once = round.once; pairs = pairs })

-- ---- sides that came about

next_of : (count : ℕ) (back : Bool) (j k : ℕ) → Leads count back j k → IsNext count j k
next_of count back j k (inl (next, inside)) = inl (omega arith, next)
next_of count back j k (inr h) = inr (h.1, h.2)

may_follow : {Apart : ℕ → ℕ → Type 0} (count : ℕ) (back : Bool) (k : ℕ) (from to : SideRow) → Joins Apart count back from to
    → (0 < k → IsRight from.dir → ⊥) → MayFollow count k from to
may_follow count back k from to (turns_there same angle) not_right =
    inl (same, record { not_round = λ full. not_right full.0 full.1; greater = inr angle })
may_follow count back k from to (leads_along same leads apart) not_right = inr (same, next_of count back from.corner to.corner leads)

to_right : (k : ℕ) (from to : SideRow) → from.corner ≡ to.corner → IsRight to.dir → (0 < k → IsRight from.dir → ⊥) → (corners : ℕ)
    → MayFollow corners k from to
to_right k from to same right not_right corners = inl (same, record { not_round = λ full. not_right full.0 full.1; greater = inl right })

module _ (Apart : ℕ → ℕ → Type 0) (points : List Point) (differ : (j k : ℕ) → Apart j k → slice_get points j ≢ slice_get points k) where
  points_part : (count : ℕ) (back : Bool) (from to : SideRow) → Joins Apart count back from to → PointsDiffer points from to
  points_part count back from to (turns_there same angle) = λ apart. absurd (apart same)
  points_part count back from to (leads_along same leads apart) = λ _. differ from.corner to.corner apart

  module _ (count : ℕ) (sides : List SideRow) (dir : Dir) (present : ℕ) (back : Bool)
      (are : AreInRow Apart count sides dir present back) where
    not_right : (k : ℕ) (side : SideRow) → slice_get sides k ≡ Some side → 0 < k → IsRight side.dir → ⊥
    not_right zero side at over = absurd (omega arith)
    not_right (suc k) side at over = are.not_right.each k side at

    follows : (k : ℕ) (from to : SideRow) → slice_get sides k ≡ Some from → slice_get sides (suc k) ≡ Some to
        → MayFollow count k from to × PointsDiffer points from to
    follows k from to at_from at_to =
        let joined = are.joined.each k from to at_from at_to in
        (may_follow count back k from to joined (not_right k from at_from), points_part count back from to joined)

    -- where (1, 0) stands behind the last side
    pairs_right : (side : SideRow) → IsRight side.dir → EndsInTwo (λ before last. PairsWith before last side) sides
    pairs_right side right = record {
      last = λ k x y end at_x at_y.
          let other : y.dir ≡ side.dir → ⊥ = λ same. are.not_right.each k y at_y (right_too side.dir y.dir (sym same) right) in
          record {
            not_three = λ _ same. other same;
            parts = λ same. absurd (other same);
            twin = edge x y (are.edge.last k x y end at_x at_y);
          };
    }
      where
        edge : (x y : SideRow) → HasEdge x y → IsAxis y.dir ⊎ ((x.dir ≡ y.dir) ⊎ (y.dir ≡ side.dir))
        edge x y (inl axis) = inl axis
        edge x y (inr same) = inr (inl same)

    -- and at the corner reached
    follows_last : (k : ℕ) (last side : SideRow) → suc k ≡ length sides → slice_get sides k ≡ Some last → side.corner ≡ present
        → IsRight side.dir
        → MayFollow count k last side × PointsDiffer points last side
    follows_last k last side end at corner right =
        let same : last.corner ≡ side.corner = (are.last.last k last end at).corner ∙ sym corner in
        (to_right k last side same right (not_right k last at) count, λ apart. absurd (apart same))

  round_of : (count : ℕ) (sides : List SideRow) → GoneRound Apart count sides → HasAxes sides → GoesRoundOnce count sides → IsBegun sides
      → IsRound points count sides
  round_of count sides (at_first _ _ dir last back turned turns right alone) axes once first_is =
      let are = in_row count sides dir 0 back turned in
      record {
        begun = first_is;
        axes = axes;
        once = once;
        follows = follows count sides dir 0 back are;
        closes = λ k last first end at_last at_first.
            let begins = begins_of sides first_is first at_first in
            follows_last count sides dir 0 back are k last first end at_last begins.1 begins.0;
        paired = are.paired;
        second = λ side at. are.not_right.each 0 side at;
        ending = λ first at. pairs_right count sides dir 0 back are first (begins_of sides first_is first at).0;
      }
  round_of count _ (at_last _ sides dir present side turned turns right end over apart here) axes once first_is = record {
    begun = first_is;
    axes = axes;
    once = once;
    follows = λ k from to at_from at_to. follow k from to at_from (added_or_stood sides side to (suc k) at_to);
    closes = λ k last first end at_last at_first. close k last first end (added_or_stood sides side last k at_last) (begins first at_first);
    paired = push_three side are.paired (pairs_right count sides dir present false are side right);
    second = λ other at. are.not_right.each 0 other (stood sides side other 1 (let long = long in omega arith) at);
    ending = λ first at. push_end_two side (record { last = λ k x end at_x. pair k x first end at_x (begins first at) });
  }
    where
      are : AreInRow Apart count sides dir present false
      are = in_row count sides dir present false turned

      long : 2 ≤ length sides
      long = let many = three_sides (sides ++ side ∷ []) axes in let more = longer sides side in omega arith

      begins : (first : SideRow) → slice_get (sides ++ side ∷ []) 0 ≡ Some first → IsRight first.dir × (first.corner ≡ 0)
      begins = begins_of (sides ++ side ∷ []) first_is

      follow : (k : ℕ) (from to : SideRow) → slice_get (sides ++ side ∷ []) k ≡ Some from
          → (slice_get sides (suc k) ≡ Some to) ⊎ ((suc k ≡ length sides) × (side ≡ to))
          → MayFollow count k from to × PointsDiffer points from to
      follow k from to at_from (inl old) =
          let inside = slice_get_within sides (suc k) to old in
          follows count sides dir present false are k from to (stood sides side from k (omega arith) at_from) old
      follow k from to at_from (inr (end, same)) =
          subst (λ (s : SideRow). MayFollow count k from s × PointsDiffer points from s) same
          (follows_last count sides dir present false are k from side end (stood sides side from k (omega arith) at_from) here right)

      home : (k : ℕ) (first : SideRow) → IsRight first.dir × (first.corner ≡ 0)
          → MayFollow count k side first × PointsDiffer points side first
      home k first begins = (
        inr (both_right side.dir first.dir right begins.0, inr (rw here end, begins.1)),
        λ _. rw (here, begins.1) (differ present 0 apart),
      )

      close : (k : ℕ) (last first : SideRow) → suc k ≡ length (sides ++ side ∷ [])
          → (slice_get sides k ≡ Some last) ⊎ ((k ≡ length sides) × (side ≡ last))
          → IsRight first.dir × (first.corner ≡ 0) → MayFollow count k last first × PointsDiffer points last first
      close k last first end (inl old) begins =
          absurd (let inside = slice_get_within sides k last old in let more = longer sides side in omega arith)
      close k last first end (inr (_, same)) begins =
          subst (λ (s : SideRow). MayFollow count k s first × PointsDiffer points s first) same (home k first begins)

      pair : (k : ℕ) (x first : SideRow) → suc k ≡ length sides → slice_get sides k ≡ Some x → IsRight first.dir × (first.corner ≡ 0)
          → PairsWith x side first
      pair k x first end at begins = record {
        not_three = λ same _.
            not_right count sides dir present false are k x at (let long = long in omega arith)
            (right_too side.dir x.dir (sym same) right);
        parts = λ _ level. omega (arith, begins.1);
        twin = inl (inl right);
      }

pub round_belt : (Apart : ℕ → ℕ → Type 0) (count : ℕ) (sides : List SideRow) → GoneRound Apart count sides
    → (points : List Point) → length points ≡ count → ((j k : ℕ) → Apart j k → slice_get points j ≢ slice_get points k)
    → IsBelt points sides
round_belt Apart count sides gone points long differ =
    belt_of_round points sides
    (subst (λ (n : ℕ). IsRound points n sides) (sym long)
    (round_of Apart points differ count sides gone (round_axes gone) (round_once gone) (round_begun gone)))
