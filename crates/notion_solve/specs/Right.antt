-- When a block is right: what it says of the equilibria of its game (von Stengel and Forges 2008; Farina, Bianchi and Sandholm 2020),
-- with the multipliers that show it (Dantzig 1963; Farkas 1902).
use Rattle.std.specs.Prelude.{◌↔◌, ◌≡◌, ◌≤◌, List, length, All, ℤ, pos, ◌<ℤ◌}
use Rattle.corr_game.specs.declared.notions.Notion.{Notion}
use Rattle.corr_game.specs.declared.sides.Side.{Side}
use Rattle.corr_game.specs.declared.sides.Side.TheVariants.{One, Two}
use Rattle.corr_game.specs.Game.{GameView, scale_of}
use Rattle.corr_num.specs.Narrow.{Narrow}
use Rattle.connected_pairs.specs.Connected.{PairsView}
use Rattle.equilibrium.specs.Deviation.{following}
use Rattle.equilibrium.specs.Distribution.{Entry, entries_of, total}
use Rattle.equilibrium.specs.Equilibrium.{IsEquilibriumList, no_slack}
use Rattle.equilibrium.specs.ReachedPoint.{IsReached}
use Rattle.lp_form.specs.Certificates.{ShowEmpty}
use Rattle.lp_form.specs.Program.{LpView}
use Rattle.plane_hull.specs.declared.sides.SideRow.{SideRow}
use Rattle.plane_hull.specs.Belt.{IsBelt}
use Rattle.plane_hull.specs.Inside.{IsInside, PlanePoint}
use Rattle.plane_hull.specs.StrictPolygon.{AreFractions, IsStrictPolygon}
use Rattle.bland_simplex.specs.Multipliers.{HasNarrowColumns}
use Rattle.bland_simplex.specs.Reachable.{IsWideBasis}
use Rattle.plan_polytope.specs.NotionProgram.{IsProgramOf}
use Rattle.report_form.specs.Certified.{IsPointIn}
use Rattle.report_form.specs.declared.reports.Block.{Block}
use Rattle.report_form.specs.declared.reports.Block.TheVariants.{Found, Empty, TooWide}
use Rattle.report_form.specs.declared.reports.Corner.{Corner}
use Rattle.report_form.specs.Points.{points_of}
use Rattle.report_form.specs.Ranges.{IsBlock}
use Rattle.notion_solve.specs.Shown.{IsShownSide}

-- some equilibrium list pays a point of the plane
abbrev pub IsPaid : Notion → GameView → PlanePoint → Type 0
IsPaid notion g p = IsReached notion g no_slack (record { x = p.x; y = p.y; den = p.den })

-- a point of the plane lies inside exactly where some equilibrium list pays it
abbrev pub InsideIsPaid : Notion → GameView → List Corner → List SideRow → Type 0
InsideIsPaid notion g corners sides =
    (p : PlanePoint) → pos 0 <ℤ p.den → IsInside (scale_of One g) (scale_of Two g) (points_of corners) sides p ↔ IsPaid notion g p

-- a corner's pairs are an equilibrium list of its total that pays its point; what they pay is narrow, and they are few
pub record IsRightCorner (notion : Notion) (g : GameView) (p : PairsView) (corner : Corner) : Type 0 where
  pub equilibrium : IsEquilibriumList notion g no_slack (entries_of corner.pairs)
  pub total_is : total (entries_of corner.pairs) ≡ corner.total
  pub narrow : (side : Side) → Narrow (following side g (entries_of corner.pairs))
  pub point :
      IsPointIn g corner.point (following One g (entries_of corner.pairs)) (following Two g (entries_of corner.pairs)) corner.total
  pub few : length corner.pairs ≤ length p.pairs

-- a strict polygon, inside of which lies exactly what equilibrium lists pay
pub record IsRightPolygon (notion : Notion) (g : GameView) (p : PairsView) (lp : LpView) (corners : List Corner)
    (sides : List SideRow) : Type 0 where
  pub fractions : AreFractions (points_of corners)
  pub strict : IsStrictPolygon (scale_of One g) (scale_of Two g) (points_of corners) sides
  pub exactly : InsideIsPaid notion g corners sides
  pub each_corner : All (IsRightCorner notion g p) corners
  pub each_side : All (IsShownSide g lp corners) sides

-- there is no equilibrium list, and narrow multipliers show that the program has no solution
pub record IsRightEmpty (notion : Notion) (g : GameView) (lp : LpView) (multipliers : List ℤ) : Type 0 where
  pub none : (list : List Entry) → IsEquilibriumList notion g no_slack list → ⊥
  pub shown : ShowEmpty lp multipliers
  pub narrow : All Narrow multipliers
  pub columns : HasNarrowColumns lp multipliers

-- a block is right for a notion's program
abbrev pub IsRight : Notion → GameView → PairsView → LpView → Block → Type 0
IsRight notion g p lp (Found corners sides) = IsRightPolygon notion g p lp corners sides
IsRight notion g p lp (Empty multipliers) = IsRightEmpty notion g lp multipliers
IsRight notion g p lp (TooWide basis place) = IsWideBasis lp basis place

-- a block in its ranges is right for the notion of a game
abbrev pub IsRightFor : GameView → PairsView → Notion → Block → Type 0
IsRightFor g p notion block = (lp : LpView) × IsProgramOf g p notion lp × IsBlock block × IsRight notion g p lp block

-- the sides of a block with a polygon are a belt round its corners
abbrev pub HasBelt : Block → Type 0
HasBelt (Found corners sides) = IsBelt (points_of corners) sides
HasBelt (Empty multipliers) = Unit {0}
HasBelt (TooWide basis place) = Unit {0}
