-- The first rule that is broken is the fault of the multipliers.
use Rattle.corr_game.specs.declared.notions.Notion.{Notion}
use Rattle.corr_game.specs.Game.{GameView}
use Rattle.report_form.specs.declared.reports.Block.TheVariants.{Empty}
use Rattle.cert_check.specs.Certified.{whole_of}
use Rattle.cert_check.specs.SideRules.{EmptyRule, IsFirstCause, empty_rules}
use Rattle.cert_check.specs.Truth.{IsBlockFault}
use Rattle.report_form.specs.declared.verdicts.Cause.{Cause}
use Rattle.report_form.specs.declared.verdicts.Item.{Item}
use Rattle.report_form.specs.declared.verdicts.Item.TheVariants as item
use Rattle.cert_check.proofs.CheckedBlocks.{empty_fault}
use Rattle.cert_check.proofs.RuleEnds.{break_for, fault_at}
use Rattle.cert_check.proofs.blocks.check_empty.Goals as goal

pub returns-in-Err-clause-broken : goal.returns-in-Err-clause-broken
returns-in-Err-clause-broken c =
    let lp = whole_of c.args.program.now in
    let multipliers = c.args.multipliers.now in
    let Breaks : Cause → Type 0 = IsFirstCause (EmptyRule lp multipliers) (empty_rules lp) in
    let Faults : Item → Cause → Type 0 = λ at cause. (g : GameView) (notion : Notion)
    → IsBlockFault g lp notion (Empty multipliers) at cause in
    fault_at Faults item.Multipliers c.in-Err.end c.at_item.result c.at_item.ensures
    (break_for Breaks (Faults item.Multipliers) c.in-Err.end
    (λ cause fails g notion. empty_fault g lp notion multipliers cause fails) c.in-Err.ensures.broken)
