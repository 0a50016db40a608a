-- The verdict is on the report that was read, whose programs fit.
use Rattle.corr_run.specs.CheckAnswer.{refused, judged}
use Rattle.corr_run.specs.FirstRefusal.{of_sizes}
use Rattle.corr_run.proofs.Sizes.{fit_at}
use Rattle.corr_run.proofs.checking.judged.Goals as goal

pub check-requires-clause-sizes : goal.check-requires-clause-sizes
check-requires-clause-sizes c =
    fit_at c.args.ready.now.game c.args.ready.now.pairs c.args.report.now.blocks (rw (c.in_default.is, c.blocks-2.ensures.blocks) at c.report_size_refusal.ensures)

pub returns-in-Some : goal.returns-in-Some
returns-in-Some c =
    let first = of_sizes c.args.ready.now.game c.args.ready.now.pairs c.requires.game (rw (c.in-Some.is, c.blocks-2.ensures.blocks) at c.report_size_refusal.ensures) in
    refused c.requires.short c.args.place c.args.report.now c.requires.read
    c.in-Some.refusal first c.in_ok-answer.ensures.text c.in_ok-answer.ensures.status

pub returns : goal.returns
returns c =
    let sizes = rw (c.in_default.is, c.blocks-2.ensures.blocks) at c.report_size_refusal.ensures in
    judged c.requires.short c.args.place c.args.report.now c.requires.read
    c.args.ready.now.game c.args.ready.now.pairs (record { game = c.requires.game; fit = sizes })
    c.in_ok-verdict.verdict
    c.in_ok-verdict.ensures.verdict
    (rw c.blocks-3.ensures.blocks at c.in_ok-text.ensures)
    c.status_of.ensures
