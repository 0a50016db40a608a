-- What a block shows of a notion's program is right by the definition of equilibrium.
use Rattle.corr_game.specs.declared.notions.Notion.{Notion}
use Rattle.corr_game.specs.Game.{GameView, IsGame}
use Rattle.connected_pairs.specs.Connected.{IsPairs, IsPairsOf, PairsView}
use Rattle.lp_form.specs.Program.{LpView}
use Rattle.plan_polytope.specs.NotionProgram.{IsProgramOf}
use Rattle.report_form.specs.declared.reports.Block.{Block}
use Rattle.report_form.specs.declared.reports.Block.TheVariants.{Found, Empty, TooWide}
use Rattle.report_form.specs.Ranges.{IsBlock}
use Rattle.notion_solve.proofs.RightEmpty.{right_empty}
use Rattle.notion_solve.proofs.RightPolygons.{right_polygon}
use Rattle.notion_solve.specs.Right.{HasBelt, IsRight, IsRightFor}
use Rattle.notion_solve.specs.Shown.{IsShown, IsShownFor}

pub right_block : (notion : Notion) (g : GameView) (p : PairsView) (lp : LpView) (block : Block) → IsGame g → IsPairs p → IsPairsOf g p
    → IsProgramOf g p notion lp → IsBlock block → IsShown g p lp block → HasBelt block → IsRight notion g p lp block
right_block notion g p lp (Found corners sides) rules pairs of program block shown belt =
    right_polygon notion g p lp rules pairs of program corners sides block shown belt
right_block notion g p lp (Empty multipliers) rules pairs of program block shown belt =
    right_empty notion g p lp multipliers rules pairs of program block shown.0 shown.1
right_block notion g p lp (TooWide basis place) rules pairs of program block shown belt = shown

pub right_for : (notion : Notion) (g : GameView) (p : PairsView) (block : Block) → IsGame g → IsPairs p → IsPairsOf g p → IsBlock block
    → IsShownFor g p notion block → HasBelt block → IsRightFor g p notion block
right_for notion g p block rules pairs of ranges shown belt =
    (shown.0, shown.1, ranges, right_block notion g p shown.0 block rules pairs of shown.1 ranges shown.2 belt)
