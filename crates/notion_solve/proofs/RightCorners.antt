-- A corner that a solution reaches is right: its pairs are entries whose column sums the solution has, so they are an equilibrium list of
-- the corner's total, which is paid what the solution pays.
use Rattle.std.proofs.Common.{◌≡◌, List, All, ℤ, pos, ◌<ℤ◌, refl, subst}
use Rattle.corr_game.specs.declared.notions.Notion.{Notion}
use Rattle.corr_game.specs.declared.sides.Side.TheVariants.{One, Two}
use Rattle.corr_game.specs.Game.{GameView, IsGame}
use Rattle.corr_num.specs.Narrow.{Narrow}
use Rattle.connected_pairs.specs.Connected.{IsPairs, IsPairsOf, PairsView}
use Rattle.lp_form.specs.Program.{LpView}
use Rattle.equilibrium.specs.Distribution.{Entry, IsEntry, entries_of, total}
use Rattle.plan_polytope.specs.NotionProgram.{IsProgramOf}
use Rattle.report_form.specs.declared.reports.Corner.{Corner}
use Rattle.equilibrium_solutions.specs.ColumnSums.{AreColumnSums}
use Rattle.equilibrium_solutions.proofs.Same.{pays, same}
use Rattle.equilibrium_solutions.proofs.SumsThere.{solution_total}
use Rattle.notion_solve.proofs.Views.{entries_seen, sums_seen}
use Rattle.notion_solve.specs.Right.{IsRightCorner}
use Rattle.notion_solve.specs.Shown.{IsReached}

module _ (notion : Notion) (g : GameView) (p : PairsView) (lp : LpView) (rules : IsGame g) (pairs : IsPairs p) (of : IsPairsOf g p)
    (program : IsProgramOf g p notion lp) where
  pub right_corner : (corner : Corner) → pos 0 <ℤ corner.total → IsReached g p lp corner → IsRightCorner notion g p corner
  right_corner corner positive reached =
      let list : List Entry = entries_of corner.pairs in
      let each : All (IsEntry g) list = entries_seen g p rules pairs of corner.pairs reached.entries in
      let sums : AreColumnSums p list reached.x =
      λ k pair at. sums_seen g p.seqs pair corner.pairs (reached.x k) reached.entries (reached.sums k pair at) in
      let all : total list ≡ corner.total =
      solution_total notion g p lp list corner.total reached.x rules pairs of program each sums reached.solution in
      let paid_is = pays notion g p lp list reached.x rules pairs of program each sums in
      record {
        equilibrium = (same notion g p lp list reached.x rules pairs of program each (rw all positive) sums).1
            (reached.x, λ k low. refl, rw all reached.solution);
        total_is = all;
        narrow = λ side. subst (λ (z : ℤ). Narrow z) (paid_is side) (reached.narrow side);
        point = rw (← paid_is One, ← paid_is Two) reached.point;
        few = reached.few;
      }
