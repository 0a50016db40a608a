-- What a block says of the equilibria of its game, whoever wrote it (von Stengel and Forges 2008; Farina, Bianchi and Sandholm 2020): the
-- payoffs of all of them, or that there is none.
use Rattle.std.specs.Prelude.{◌≡◌, List, All}
use Rattle.corr_game.specs.declared.notions.Notion.{Notion}
use Rattle.corr_game.specs.declared.sides.Side.TheVariants.{One, Two}
use Rattle.corr_game.specs.Game.{GameView, scale_of}
use Rattle.equilibrium.specs.Deviation.{following}
use Rattle.equilibrium.specs.Distribution.{Entry, entries_of, total}
use Rattle.equilibrium.specs.Equilibrium.{IsEquilibriumList, no_slack}
use Rattle.plane_hull.specs.declared.sides.SideRow.{SideRow}
use Rattle.plane_hull.specs.StrictPolygon.{IsStrictPolygon}
use Rattle.report_form.specs.Certified.{IsPointIn}
use Rattle.report_form.specs.declared.reports.Block.{Block}
use Rattle.report_form.specs.declared.reports.Block.TheVariants.{Found, Empty, TooWide}
use Rattle.report_form.specs.declared.reports.Corner.{Corner}
use Rattle.report_form.specs.Points.{points_of}
use Rattle.notion_solve.specs.Right.{InsideIsPaid}

-- a corner's pairs are an equilibrium list of its total that pays its point
pub record IsPaidCorner (notion : Notion) (g : GameView) (corner : Corner) : Type 0 where
  pub equilibrium : IsEquilibriumList notion g no_slack (entries_of corner.pairs)
  pub total_is : total (entries_of corner.pairs) ≡ corner.total
  pub point :
      IsPointIn g corner.point (following One g (entries_of corner.pairs)) (following Two g (entries_of corner.pairs)) corner.total

-- a strict polygon, inside of which lies exactly what equilibrium lists pay
pub record IsExactPolygon (notion : Notion) (g : GameView) (corners : List Corner) (sides : List SideRow) : Type 0 where
  pub strict : IsStrictPolygon (scale_of One g) (scale_of Two g) (points_of corners) sides
  pub exactly : InsideIsPaid notion g corners sides
  pub each_corner : All (IsPaidCorner notion g) corners

-- a polygon is exact, and where a block is empty no list is an equilibrium list; one that is too wide says nothing
abbrev pub IsExact : Notion → GameView → Block → Type 0
IsExact notion g (Found corners sides) = IsExactPolygon notion g corners sides
IsExact notion g (Empty multipliers) = (list : List Entry) → IsEquilibriumList notion g no_slack list → ⊥
IsExact notion g (TooWide basis place) = Unit {0}
