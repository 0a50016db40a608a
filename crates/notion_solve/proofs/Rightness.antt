-- What right blocks have in common: a right polygon has corners, and what equilibrium lists pay is a mixture of them.
use Rattle.std.proofs.Common.{◌≡◌, ◌↔◌, ℕ, ◌<◌, List, All, Some, length, option_map, slice_get, subst, ◌∙◌, ap, ℤ, pos, ◌<ℤ◌, arith}
use Rattle.std.proofs.lemmas.Option.{get_or_from_slice_get, slice_get-map, slice_get_within}
use Rattle.corr_game.specs.declared.notions.Notion.{Notion}
use Rattle.corr_game.specs.declared.sides.Side.TheVariants.{One, Two}
use Rattle.corr_game.specs.Game.{GameView, IsGame, scale_of}
use Rattle.connected_pairs.specs.Connected.{PairsView}
use Rattle.lp_form.specs.Program.{LpView}
use Rattle.plane_hull.proofs.StrictPolygons.{inside_is_mixture}
use Rattle.plane_hull.specs.declared.sides.SideRow.{SideRow}
use Rattle.plane_hull.specs.Inside.{IsInside, PlanePoint}
use Rattle.plane_hull.specs.Mixture.{IsMixture}
use Rattle.plane_hull.specs.StrictPolygon.{AreCornersInside}
use Rattle.report_form.specs.declared.reports.Corner.{Corner}
use Rattle.report_form.specs.Points.{points_of}
use Rattle.notion_solve.proofs.Inside.{over_one}
use Rattle.notion_solve.specs.Right.{IsPaid, IsRightCorner, IsRightEmpty, IsRightPolygon}
use Rattle.notion_solve.specs.Shown.{IsShownSide}

pub element : {X : Type 0} (P : X → Type 0) (xs : List X) (k : ℕ) (x : X) → All P xs → slice_get xs k ≡ Some x → P x
element P xs k x all at = subst (λ y. P y) (get_or_from_slice_get xs k x x at) (all k x (slice_get_within xs k x at))

pub point_there : (corners : List Corner) (k : ℕ) (corner : Corner) → slice_get corners k ≡ Some corner
    → slice_get (points_of corners) k ≡ Some corner.point
point_there corners k corner at =
    slice_get-map (λ (c : Corner). c.point) corners k ∙ ap (λ c. option_map (λ (corner : Corner). corner.point) c) at

module _ (notion : Notion) (g : GameView) (p : PairsView) (lp : LpView) (corners : List Corner) (sides : List SideRow)
    (right : IsRightPolygon notion g p lp corners sides) where
  side_at : (k : ℕ) (side : SideRow) → slice_get sides k ≡ Some side → IsShownSide g lp corners side
  side_at k side at = element (IsShownSide g lp corners) sides k side right.each_side at

  stands : (k : ℕ) (side : SideRow) → slice_get sides k ≡ Some side → side.corner < length (points_of corners)
  stands k side at =
      let certified = (side_at k side at).certified in
      slice_get_within (points_of corners) side.corner certified.corner.point
      (point_there corners side.corner certified.corner certified.at)

  -- the side of direction (0, 1) stands at some corner
  pub a_corner : (corner : Corner) × IsRightCorner notion g p corner
  a_corner =
      let up = right.strict.belt.axes.up in
      let certified = (side_at up.0 up.1 up.2).certified in
      (certified.corner, element (IsRightCorner notion g p) corners up.1.corner certified.corner right.each_corner certified.at)

  pub not_empty : (other : LpView) (multipliers : List ℤ) → IsRightEmpty notion g other multipliers → ⊥
  not_empty other multipliers empty = empty.none _ a_corner.1.equilibrium

  corners_inside : IsGame g → AreCornersInside (scale_of One g) (scale_of Two g) (points_of corners) sides
  corners_inside game = record {
    first_scale = over_one (game.each_scale One).0;
    second_scale = over_one (game.each_scale Two).0;
    fractions = right.fractions;
    some = let up = right.strict.belt.axes.up in let inside = stands up.0 up.1 up.2 in omega (arith, inside);
    stand = stands;
    belt = right.strict.belt;
    inside = right.strict.inside;
  }

  pub paid_is_mixture : (point : PlanePoint) → IsGame g → pos 0 <ℤ point.den → IsPaid notion g point ↔ IsMixture (points_of corners) point
  paid_is_mixture point game over =
      let mixed = inside_is_mixture (scale_of One g) (scale_of Two g) (points_of corners) sides (corners_inside game) point over in
      let exactly = right.exactly point over in
      (λ paid. mixed.0 (exactly.1 paid), λ mixture. exactly.0 (mixed.1 mixture))

pub polygons_are_one : (notion : Notion) (g : GameView) (p : PairsView) (lp other : LpView) (corners more : List Corner)
    (sides round : List SideRow)
    → IsRightPolygon notion g p lp corners sides → IsRightPolygon notion g p other more round → (point : PlanePoint) → pos 0 <ℤ point.den
    → IsInside (scale_of One g) (scale_of Two g) (points_of corners) sides point
    ↔ IsInside (scale_of One g) (scale_of Two g) (points_of more) round point
polygons_are_one notion g p lp other corners more sides round first second point over =
    let one = first.exactly point over in
    let two = second.exactly point over in
    (λ inside. two.1 (one.0 inside), λ inside. one.1 (two.0 inside))
