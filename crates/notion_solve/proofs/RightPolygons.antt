-- A polygon that is shown of a notion's program is right where its sides are a belt: its corners are right, so it is exact.
use Rattle.std.proofs.Common.{◌<◌, ℕ, List, length, get_or}
use Rattle.corr_game.specs.declared.notions.Notion.{Notion}
use Rattle.corr_game.specs.Game.{GameView, IsGame}
use Rattle.connected_pairs.specs.Connected.{IsPairs, IsPairsOf, PairsView}
use Rattle.lp_form.specs.Program.{LpView}
use Rattle.plan_polytope.specs.NotionProgram.{IsProgramOf}
use Rattle.plane_hull.specs.declared.sides.SideRow.{SideRow}
use Rattle.plane_hull.specs.Belt.{IsBelt}
use Rattle.report_form.specs.declared.reports.Block.TheVariants.{Found}
use Rattle.report_form.specs.declared.reports.Corner.{Corner}
use Rattle.report_form.specs.Points.{points_of}
use Rattle.report_form.specs.Ranges.{IsBlock}
use Rattle.notion_solve.proofs.ExactPolygons.{exact_polygon, points_are_fractions}
use Rattle.notion_solve.proofs.Inside.{over_one, shown_at}
use Rattle.notion_solve.proofs.RightCorners.{right_corner}
use Rattle.notion_solve.specs.Exact.{IsExactPolygon, IsPaidCorner}
use Rattle.notion_solve.specs.Right.{IsRightCorner, IsRightPolygon}
use Rattle.notion_solve.specs.Shown.{IsShown}

-- a right corner is paid by its pairs
pub paid_corner : (notion : Notion) (g : GameView) (p : PairsView) (corner : Corner) → IsRightCorner notion g p corner
    → IsPaidCorner notion g corner
paid_corner notion g p corner right = record { equilibrium = right.equilibrium; total_is = right.total_is; point = right.point }

module _ (notion : Notion) (g : GameView) (p : PairsView) (lp : LpView) (rules : IsGame g) (pairs : IsPairs p) (of : IsPairsOf g p)
    (program : IsProgramOf g p notion lp) (corners : List Corner) (sides : List SideRow) (block : IsBlock (Found corners sides))
    (shown : IsShown g p lp (Found corners sides)) (belt : IsBelt (points_of corners) sides) where
  right_at : (k : ℕ) (d : Corner) → k < length corners → IsRightCorner notion g p (get_or corners k d)
  right_at k d low = right_corner notion g p lp rules pairs of program _ (over_one (block.2 k d low).0.0) (shown.0 k d low)

  exact : IsExactPolygon notion g corners sides
  exact =
      exact_polygon notion g p lp rules pairs of program corners sides block
      (λ k side at. shown_at g lp corners sides k side shown.1 at)
      (λ k d low. paid_corner notion g p (get_or corners k d) (right_at k d low))
      belt

  pub right_polygon : IsRightPolygon notion g p lp corners sides
  right_polygon = record {
    fractions = points_are_fractions corners block.2;
    strict = exact.strict;
    exactly = exact.exactly;
    each_corner = right_at;
    each_side = shown.1;
  }
