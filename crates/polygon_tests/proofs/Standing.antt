-- The sides of what was proposed stand at its corners.
use Rattle.std.proofs.Common.{◌≡◌, ℕ, List, All, Some, length, subst}
use Rattle.std.specs.Prelude.{slice_get}
use Rattle.std.proofs.lemmas.Option.{get_or_from_slice_get, slice_get_within}
use Rattle.lp_form.specs.Program.{LpView}
use Rattle.plane_hull.specs.Belt.{StandAtCorners}
use Rattle.plane_hull.specs.declared.sides.SideRow.{SideRow}
use Rattle.polygon_sweep.specs.Swept.{IsSideAmong}
use Rattle.polygon_sweep.specs.declared.corners.SweptCorner.{SweptCorner}

pub element : {X : Type 0} (P : X → Type 0) (xs : List X) (k : ℕ) (x : X) → All P xs → slice_get xs k ≡ Some x → P x
element P xs k x all e = subst P (get_or_from_slice_get xs k x x e) (all k x (slice_get_within xs k x e))

pub sides_stand : (lp : LpView) (corners : List SweptCorner) (sides : List SideRow) → All (IsSideAmong lp corners) sides → StandAtCorners (length corners) sides
sides_stand lp corners sides all k side e =
    let here : IsSideAmong lp corners side = element (IsSideAmong lp corners) sides k side all e in
    slice_get_within corners side.corner here.corner here.at
