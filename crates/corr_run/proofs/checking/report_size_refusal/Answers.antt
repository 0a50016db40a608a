-- The programs passed fit, or this one is the first that doesn't.
use Rattle.std.proofs.Common.{arith}
use Rattle.std.proofs.lemmas.Option.{slice_get_within}
use Rattle.corr_run.proofs.Sizes.{first_at, fit_each, fits_next, only_first}
use Rattle.corr_run.proofs.checking.report_size_refusal.Goals as goal

pub loop-k-preserved : goal.loop-k-preserved
loop-k-preserved c = fits_next c.args.ready.now.game c.args.ready.now.pairs c.args.blocks.now c.loop-k.k c.at.result.now c.at.ensures.item c.in_default.ensures.0 c.loop-k.invariant

pub returns-in-Some : goal.returns-in-Some
returns-in-Some c =
    first_at c.args.ready.now.game c.args.ready.now.pairs c.args.blocks.now c.loop-k.k c.at.result.now c.in-Some.refusal c.at.ensures.item c.loop-k.invariant
    (only_first c.args.ready.now.game c.args.ready.now.pairs c.at.result.now.notion c.in-Some.refusal c.in-Some.ensures)

pub returns : goal.returns
returns c =
    fit_each c.args.ready.now.game c.args.ready.now.pairs c.args.blocks.now
    (λ j named e. c.loop-k.invariant j named (omega (arith, slice_get_within c.args.blocks.now j named e)) e)
