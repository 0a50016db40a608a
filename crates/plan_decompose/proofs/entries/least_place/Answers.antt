-- The lower of two is the least of the pairs gone over.
use Rattle.std.proofs.Common.{◌<◌, length, arith}
use Rattle.sequences.proofs.Adding.{within}
use Rattle.plan_decompose.proofs.Least.{least_more, least_none, least_some}
use Rattle.plan_decompose.proofs.entries.least_place.Goals as goal

pub loop-k-preserved : goal.loop-k-preserved
loop-k-preserved c =
    let p = c.args.pairs.now in
    let n = c.loop-k.k in
    let low : n < length c.args.values.now = omega (arith, c.requires.per_pair, c.len-k-end.ensures.count) in
    let pair = within p.pairs n (omega (arith, c.len-k-end.ensures.count)) in
    let both = (c.both_play.ensures pair.0 pair.1).0 c.if-not-both_play.false in
    least_more p c.args.one.now c.args.two.now c.args.values.now n c.loop-k.least c.lesser.result c.loop-k.invariant low (pair.0, (pair.1, both)) c.lesser.ensures.one_of c.lesser.ensures.below c.lesser.ensures.below_least

pub returns-clause-none : goal.returns-clause-none
returns-clause-none c =
    least_none c.args.pairs.now c.args.one.now c.args.two.now c.args.values.now c.loop-k.k c.loop-k.least c.loop-k.invariant (omega (arith, c.len-k-end.ensures.count))

pub returns-clause-some : goal.returns-clause-some
returns-clause-some c =
    least_some c.args.pairs.now c.args.one.now c.args.two.now c.args.values.now c.loop-k.k c.loop-k.least c.loop-k.invariant (omega (arith, c.len-k-end.ensures.count))
