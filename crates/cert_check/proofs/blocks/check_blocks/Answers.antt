-- Each block is in its ranges; the first that isn't true has the fault.
use Rattle.std.proofs.Common.{refl, arith}
use Rattle.std.proofs.lemmas.Option.{slice_get_within}
use Rattle.cert_check.specs.Truth.{IsTrueOf}
use Rattle.cert_check.proofs.CheckedBlocks.{all_before, no_verdict, one_before, partly_verdict, true_certified, whole_verdict}
use Rattle.cert_check.proofs.Elements.{block_at}
use Rattle.cert_check.proofs.blocks.check_blocks.Goals as goal

pub check_block-requires-clause-ranges : goal.check_block-requires-clause-ranges
check_block-requires-clause-ranges c = block_at 0 _ _ _ c.requires.ranges c.at-named.ensures.item

pub loop-k-preserved : goal.loop-k-preserved
loop-k-preserved c =
    (refl, one_before (IsTrueOf c.args.game.now c.args.pairs.now) c.args.blocks.now c.loop-k.k c.at-named.result.now c.loop-k.invariant.1 c.at-named.ensures.item c.in-Ok.ensures.held)

pub returns-then-some_too_wide-clause-certified : goal.returns-then-some_too_wide-clause-certified
returns-then-some_too_wide-clause-certified c = λ accepted k named here.
    let holds = c.loop-k.invariant.1 k named (omega (arith, slice_get_within c.args.blocks.now k named here, c.loop-k-test.false, c.len-k-end.ensures.count)) here in
    true_certified c.args.game.now c.args.pairs.now named.notion named.block (block_at 0 c.args.blocks.now k named c.requires.ranges here) holds.0 holds.1 holds.2

pub returns-else-some_too_wide-clause-certified : goal.returns-else-some_too_wide-clause-certified
returns-else-some_too_wide-clause-certified c = λ accepted k named here.
    let holds = c.loop-k.invariant.1 k named (omega (arith, slice_get_within c.args.blocks.now k named here, c.loop-k-test.false, c.len-k-end.ensures.count)) here in
    true_certified c.args.game.now c.args.pairs.now named.notion named.block (block_at 0 c.args.blocks.now k named c.requires.ranges here) holds.0 holds.1 holds.2

pub returns-then-some_too_wide-clause-verdict : goal.returns-then-some_too_wide-clause-verdict
returns-then-some_too_wide-clause-verdict c = λ report same ranges scales.
    let g = c.args.game.now in
    let p = c.args.pairs.now in
    let holds = all_before (IsTrueOf g p) c.args.blocks.now c.loop-k.k (omega (arith, c.loop-k-test.false, c.len-k-end.ensures.count)) c.loop-k.invariant.1 in
    partly_verdict g p report scales ranges (rw same holds) (rw same (c.if-some_too_wide.ensures.some refl))

pub returns-else-some_too_wide-clause-verdict : goal.returns-else-some_too_wide-clause-verdict
returns-else-some_too_wide-clause-verdict c = λ report same ranges scales.
    let g = c.args.game.now in
    let p = c.args.pairs.now in
    let holds = all_before (IsTrueOf g p) c.args.blocks.now c.loop-k.k (omega (arith, c.loop-k-test.false, c.len-k-end.ensures.count)) c.loop-k.invariant.1 in
    whole_verdict g p report scales ranges (rw same holds) (rw same (c.if-some_too_wide.ensures.none refl))

pub returns-in-Err-Fault-clause-verdict : goal.returns-in-Err-Fault-clause-verdict
returns-in-Err-Fault-clause-verdict c = λ report same ranges scales.
    let g = c.args.game.now in
    let p = c.args.pairs.now in
    let fault = c.in-Err-Fault.field-0-0 in
    let here = rw c.in-Err-Fault.field-0-is at c.in-Err-Fault.ensures.broken in
    rw c.in-Err-Fault.field-0-is
    (no_verdict g p report scales ranges c.loop-k.k c.at-named.result.now (rw same c.at-named.ensures.item) (rw same c.loop-k.invariant.1)
    fault.item fault.cause here)
