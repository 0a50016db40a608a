-- The new block is right as those before it.
use Rattle.std.proofs.Common.{List, subst, sym}
use Rattle.std.proofs.lemmas.List.Elements.{All-push}
use Rattle.notion_solve.specs.Right.{IsRightFor}
use Rattle.report_form.specs.declared.reports.NamedBlock.{NamedBlock}
use Rattle.corr_run.specs.Reports.{AreRight}
use Rattle.corr_run.proofs.solving.add_block.Goals as goal

pub returns-clause-right : goal.returns-clause-right
returns-clause-right c =
    let g = c.args.ready.now.game in
    let p = c.args.ready.now.pairs in
    let named : NamedBlock = record { notion = c.args.notion; block = c.in_ok-block.block } in
    subst (λ (blocks : List NamedBlock). AreRight g p blocks) (sym c.in_ok-push.ensures.ok)
    (All-push (λ (it : NamedBlock). IsRightFor g p it.notion it.block) c.args.blocks.now named c.requires.right_before c.in_ok-block.ensures.right)
