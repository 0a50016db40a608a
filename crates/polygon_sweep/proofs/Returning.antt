-- Where the tableau moves from one corner to another as the direction turns, an edge leads there. So the first corner is left above the
-- first axis alone and met again below it alone.
use Rattle.std.proofs.Common.{◌≡◌, ℕ, ◌+◌, List, length, All, pos, ◌<ℤ◌, Some, slice_get, refl, subst, arith}
use Rattle.lp_form.specs.Program.{LpView}
use Rattle.int_tableau.specs.Content.{Content}
use Rattle.plane_hull.specs.Belt.{IsRight}
use Rattle.plane_hull.specs.declared.directions.Dir.{Dir}
use Rattle.bland_simplex.specs.Improving.{IsOptimal}
use Rattle.bland_simplex.specs.Ready.{IsReady}
use Rattle.polygon_sweep.proofs.Furthest.{furthest, furthest_left}
use Rattle.polygon_sweep.proofs.Leading.{IsFirst, Leads, back_below, first_corner, leads, none_away}
use Rattle.polygon_sweep.proofs.Parting.{corner_of}
use Rattle.polygon_sweep.specs.declared.corners.SweptCorner.{SweptCorner}
use Rattle.polygon_sweep.specs.Round.{AreApart}
use Rattle.polygon_sweep.specs.Swept.{IsAt, IsBounding, IsCoprime, IsCornerOf, IsGrown, Reaches}

-- corner 0 is the first one
pub record HasFirst (lp : LpView) (corners : List SweptCorner) : Type 0 where
  pub corner : SweptCorner
  pub at : slice_get corners 0 ≡ Some corner
  pub first : IsFirst lp corner

pub first_grown : (lp : LpView) (corners more : List SweptCorner) → IsGrown corners more → HasFirst lp corners → HasFirst lp more
first_grown lp corners more g has = record { corner = has.corner; at = g 0 has.corner has.at; first = has.first }

reached_at : (lp : LpView) (t : Content) (corners : List SweptCorner) (number : ℕ) (corner : SweptCorner) → IsAt lp t corners number
    → slice_get corners number ≡ Some corner → Reaches t (length lp.rows) (lp.cols + length lp.rows) corner
reached_at lp t corners number corner here at =
    let same : here.corner ≡ corner = cc (here.at, at) in
    subst (λ (c : SweptCorner). Reaches t (length lp.rows) (lp.cols + length lp.rows) c) same here.reached

-- (1, 0), at which a sweep starts
abbrev pub right : Dir
right = record { a = pos 1; b = pos 0; a_narrow = omega arith; b_narrow = omega arith }

pub has_first : (lp : LpView) (t : Content) (corners : List SweptCorner) → IsReady lp t → IsOptimal t (length lp.rows) lp.cols right
    → All (IsCornerOf lp) corners → IsAt lp t corners 0 → HasFirst lp corners
has_first lp t corners ready optimal all here =
    let is = corner_of lp corners 0 here.corner all here.at in
    record {
      corner = here.corner;
      at = here.at;
      first = first_corner lp right here.corner (refl, refl) (furthest_left lp t ready here.corner here.reached is.positive right optimal);
    }

first_is : (lp : LpView) (corners : List SweptCorner) (number : ℕ) (corner : SweptCorner) → HasFirst lp corners
    → slice_get corners number ≡ Some corner → number ≡ 0 → IsFirst lp corner
first_is lp corners number corner has at none =
    let there = rw none at at in
    let same : has.corner ≡ corner = cc (has.at, there) in
    subst (λ (c : SweptCorner). IsFirst lp c) same has.first

module _ (lp : LpView) (old new : Content) (next : Dir) (corners : List SweptCorner) (present number : ℕ) (coprime : IsCoprime next)
    (old_ready : IsReady lp old) (bounding : IsBounding old (length lp.rows) lp.cols next) (here : IsAt lp old corners present)
    (new_ready : IsReady lp new) (optimal : IsOptimal new (length lp.rows) lp.cols next) (there : IsAt lp new corners number)
    (all : All (IsCornerOf lp) corners) where
  edge : (two : AreApart corners present number) → Leads next two.0 two.1
  edge two =
      let from = corner_of lp corners present two.0 all two.2 in
      let to = corner_of lp corners number two.1 all two.3 in
      leads lp next two.0 two.1 coprime from to
      (furthest lp old old_ready two.0 (reached_at lp old corners present two.0 here two.2) from.positive next bounding)
      (furthest_left lp new new_ready two.1 (reached_at lp new corners number two.1 there two.3) to.positive next optimal) two.4

  pub never_left : HasFirst lp corners → AreApart corners present number → next.b <ℤ pos 0 → present ≡ 0 → ⊥
  never_left has two below none =
      none_away lp next two.0 two.1 coprime (corner_of lp corners number two.1 all two.3) (first_is lp corners present two.0 has two.2 none)
      (edge two) below

  pub met_below : HasFirst lp corners → (IsRight next → ⊥) → AreApart corners present number → number ≡ 0 → next.b <ℤ pos 0
  met_below has short two none =
      back_below lp next two.0 two.1 coprime (corner_of lp corners present two.0 all two.2)
      (first_is lp corners number two.1 has two.3 none)
      (edge two) short
