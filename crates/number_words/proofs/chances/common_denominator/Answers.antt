use Rattle.number_words.proofs.Multiples.{common_more, common_all, kept_within}
use Rattle.number_words.proofs.chances.common_denominator.Goals as goal

pub common_multiple-common-requires-clause-common : goal.common_multiple-common-requires-clause-common
common_multiple-common-requires-clause-common c = kept_within c.loop-prob.common _ c.loop-prob.invariant

pub loop-prob-preserved : goal.loop-prob-preserved
loop-prob-preserved c = common_more c.args.probs.now c.loop-prob.prob-index c.prob-item.result c.common_multiple-common.result c.den.result c.loop-prob-test.true c.prob-item.is c.den.ensures.value (c.common_multiple-common.ensures _ c.loop-prob.invariant)

pub returns : goal.returns
returns c = common_all c.args.probs.now c.loop-prob.prob-index c.loop-prob.common c.loop-prob-test.false c.loop-prob.invariant
