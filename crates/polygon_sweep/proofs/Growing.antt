-- A polygon that grows by a corner or a side keeps what it is.
use Rattle.std.proofs.Common.{◌≡◌, ℕ, zero, suc, ◌+◌, List, [], ◌∷◌, ◌++◌, length, All, Some, slice_get, refl, arith}
use Rattle.std.proofs.lemmas.List.{length_push}
use Rattle.std.proofs.lemmas.List.Elements.{All-push}
use Rattle.plane_hull.specs.declared.sides.SideRow.{SideRow}
use Rattle.lp_form.specs.Program.{IsProgram, LpView}
use Rattle.int_tableau.specs.Content.{Content}
use Rattle.polygon_sweep.specs.declared.corners.SweptCorner.{SweptCorner}
use Rattle.polygon_sweep.specs.declared.corners.Swept.{Swept}
use Rattle.polygon_sweep.specs.Swept.{IsAt, IsCornerOf, IsGrown, IsPointOf, IsSideAmong, IsSideOf, IsSwept, Reaches}

still : {X : Type 0} (xs ys : List X) (k : ℕ) (x : X) → slice_get xs k ≡ Some x → slice_get (xs ++ ys) k ≡ Some x
still [] ys k x h = absurd (cc)
still (z ∷ zs) ys zero x h = h
still (z ∷ zs) ys (suc k) x h = still zs ys k x h

pub pushed : {X : Type 0} (xs : List X) (y : X) → slice_get (xs ++ y ∷ []) (length xs) ≡ Some y
pushed [] y = refl
pushed (z ∷ zs) y = pushed zs y

pub grown : (corners more : List SweptCorner) (corner : SweptCorner) → more ≡ corners ++ corner ∷ [] → IsGrown corners more
grown corners more corner e = λ number found there. rw e (still corners (corner ∷ []) number found there)

among_more : (lp : LpView) (corners more : List SweptCorner) (sides : List SideRow) → IsGrown corners more → All (IsSideAmong lp corners) sides → All (IsSideAmong lp more) sides
among_more lp corners more sides g all = λ k d inside.
    let there = all k d inside in
    record { certified = there.certified; corner = there.corner; at = g _ _ there.at; point = there.point }

pub with_corner : (lp : LpView) (old new : Swept) (corner : SweptCorner) → new.corners ≡ old.corners ++ corner ∷ [] → new.sides ≡ old.sides → IsSwept lp old → IsCornerOf lp corner → IsSwept lp new
with_corner lp old new corner e f swept is =
    let count : length new.corners ≡ length old.corners + 1 = rw e (length_push old.corners corner) in
    record {
      a_corner = omega arith;
      a_side = rw f swept.a_side;
      corners = rw e (All-push (IsCornerOf lp) old.corners corner swept.corners is);
      sides = rw f (among_more lp old.corners new.corners old.sides (grown old.corners new.corners corner e) swept.sides);
    }

pub with_side : (lp : LpView) (old new : Swept) (side : SideRow) → new.corners ≡ old.corners → new.sides ≡ old.sides ++ side ∷ [] → IsSwept lp old → IsSideAmong lp old.corners side → IsSwept lp new
with_side lp old new side e f swept is =
    let count : length new.sides ≡ length old.sides + 1 = rw f (length_push old.sides side) in
    record {
      a_corner = rw e swept.a_corner;
      a_side = omega arith;
      corners = rw e swept.corners;
      sides = rw (e, f) (All-push (IsSideAmong lp old.corners) old.sides side swept.sides is);
    }

-- a side with the number of a corner that the tableau is at
pub at_corner : (lp : LpView) (t : Content) (corners : List SweptCorner) (number : ℕ) (side : SideRow) → IsSideOf lp side → side.corner ≡ number
    → ((found : SweptCorner) → IsProgram lp → Reaches t (length lp.rows) (lp.cols + length lp.rows) found → IsPointOf side found)
    → IsAt lp t corners number → IsSideAmong lp corners side
at_corner lp t corners number side is same point here = record {
  certified = is;
  corner = here.corner;
  at = rw same here.at;
  point = λ program. point here.corner program here.reached;
}

pub at_grown : (lp : LpView) (t : Content) (corners more : List SweptCorner) (number : ℕ) → IsGrown corners more → IsAt lp t corners number → IsAt lp t more number
at_grown lp t corners more number g here = record { corner = here.corner; at = g number here.corner here.at; reached = here.reached }
