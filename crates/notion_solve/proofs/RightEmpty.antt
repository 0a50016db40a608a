-- Where a program is shown to have no solution, no list is an equilibrium list: its column sums would extend to one.
use Rattle.std.proofs.Common.{List, All, ℤ}
use Rattle.corr_game.specs.declared.notions.Notion.{Notion}
use Rattle.corr_game.specs.Game.{GameView, IsGame}
use Rattle.corr_num.specs.Narrow.{Narrow}
use Rattle.connected_pairs.specs.Connected.{IsPairs, IsPairsOf, PairsView}
use Rattle.bland_simplex.specs.Multipliers.{HasNarrowColumns}
use Rattle.equilibrium.specs.Distribution.{Entry, total}
use Rattle.equilibrium.specs.Equilibrium.{IsEquilibriumList, no_slack}
use Rattle.lp_form.proofs.Certified.{shown_empty}
use Rattle.lp_form.specs.Certificates.{ShowEmpty}
use Rattle.lp_form.specs.Program.{LpView}
use Rattle.plan_polytope.specs.NotionProgram.{IsProgramOf}
use Rattle.equilibrium_solutions.proofs.Same.{same}
use Rattle.equilibrium_solutions.proofs.SumsThere.{lists_have_sums}
use Rattle.notion_solve.specs.Right.{IsRightEmpty}

pub none_where_shown : (notion : Notion) (g : GameView) (p : PairsView) (lp : LpView) (multipliers : List ℤ) → IsGame g → IsPairs p
    → IsPairsOf g p → IsProgramOf g p notion lp → ShowEmpty lp multipliers → (list : List Entry)
    → IsEquilibriumList notion g no_slack list → ⊥
none_where_shown notion g p lp multipliers rules pairs of program shows list eq =
    let found = lists_have_sums g p rules pairs of list in
    let solved = (same notion g p lp list found.0 rules pairs of program eq.entries eq.some_weight found.1).0 eq in
    shown_empty lp program.right_sides multipliers shows (total list, solved.0, eq.some_weight, solved.2)

pub right_empty : (notion : Notion) (g : GameView) (p : PairsView) (lp : LpView) (multipliers : List ℤ) → IsGame g → IsPairs p
    → IsPairsOf g p → IsProgramOf g p notion lp → All Narrow multipliers → ShowEmpty lp multipliers → HasNarrowColumns lp multipliers
    → IsRightEmpty notion g lp multipliers
right_empty notion g p lp multipliers rules pairs of program narrow shows columns = record {
  none = none_where_shown notion g p lp multipliers rules pairs of program shows;
  shown = shows;
  narrow = narrow;
  columns = columns;
}
