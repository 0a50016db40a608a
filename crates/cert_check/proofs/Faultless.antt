-- In a block that is true no rule is broken, at whichever item.
use Rattle.corr_game.specs.declared.notions.Notion.{Notion}
use Rattle.corr_game.specs.Game.{GameView}
use Rattle.lp_form.specs.Program.{LpView}
use Rattle.report_form.specs.declared.reports.Block.{Block}
use Rattle.report_form.specs.declared.reports.Block.TheVariants.{Found, Empty, TooWide}
use Rattle.report_form.specs.declared.verdicts.Cause.{Cause}
use Rattle.report_form.specs.declared.verdicts.Item.{Item}
use Rattle.cert_check.specs.CornerRules.{CornerRule, corner_rules}
use Rattle.cert_check.specs.SideRules.{EmptyRule, SideRule, empty_rules, side_rules}
use Rattle.cert_check.specs.Truth.{IsBlockFault, IsTrueBlock, IsTrueCorner, IsTrueSide, at_corner, at_belt, at_side, at_multipliers}
use Rattle.cert_check.proofs.Elements.{all_at}
use Rattle.cert_check.proofs.FirstBroken.{none_broken}

pub no_fault : (g : GameView) (lp : LpView) (notion : Notion) (block : Block) (at : Item) (cause : Cause) → IsTrueBlock g lp notion block
    → IsBlockFault g lp notion block at cause → ⊥
no_fault g lp notion (Found corners sides) at cause holds (at_corner _ _ k corner _ there before broken) =
    none_broken (CornerRule g notion corner) corner_rules cause (all_at (IsTrueCorner g notion) corners k corner holds.0 there) broken
no_fault g lp notion (Found corners sides) at cause holds (at_belt _ _ side true_corners fault) = fault.no_belt holds.1
no_fault g lp notion (Found corners sides) at cause holds (at_side _ _ k side rule true_corners belt there before broken) =
    none_broken (SideRule g lp corners side) (side_rules lp) rule (all_at (IsTrueSide g lp corners) sides k side holds.2 there) broken
no_fault g lp notion (Empty multipliers) at cause holds (at_multipliers _ rule broken) =
    none_broken (EmptyRule lp multipliers) (empty_rules lp) rule holds broken
no_fault g lp notion (TooWide basis place) at cause holds fault = elim fault [ ]
