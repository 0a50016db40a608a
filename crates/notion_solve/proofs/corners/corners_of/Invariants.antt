-- As many corners as were passed, each in its ranges, with its pairs of plans and its point, reached by the solution it comes from.
use Rattle.std.proofs.Common.{◌≡◌, length, All}
use Rattle.lp_form.specs.Program.{LpView}
use Rattle.polygon_sweep.specs.Swept.{IsCornerOf}
use Rattle.report_form.specs.Ranges.{IsCorner}
use Rattle.notion_solve.proofs.Points.{ArePointsBelow}
use Rattle.notion_solve.specs.Shown.{IsReached}
use Rattle.notion_solve.specs.Spread.{IsSpread}
use Rattle.notion_solve.proofs.corners.corners_of.Given as goal

abbrev pub invariant-loop-k : goal.invariant-loop-k
invariant-loop-k l =
    (length l.corners ≡ l.k)
    × All IsCorner l.corners
    × All (IsSpread l.pairs) l.corners
    × ArePointsBelow l.game l.swept l.k l.corners
    × ((lp : LpView) → All (IsCornerOf lp) l.swept → All (IsReached l.game l.pairs lp) l.corners)
