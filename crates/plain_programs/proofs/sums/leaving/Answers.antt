-- What one pair more pays is added, and the sum stays within 2^102.
use Rattle.std.proofs.Common.{sym, ◌∙◌, arith}
use Rattle.corr_num.proofs.PrintedTerms.{returned}
use Rattle.equilibrium.specs.Deviation.{deviated_pay}
use Rattle.plain_programs.proofs.WeightedSums.{heavy_at_most, next_part, part_bound, weighed_is, weighed_within, weight_at_most}
use Rattle.plain_programs.proofs.WeightedSums.{weight_returned, weighted_pairs, whole_part}
use Rattle.plain_programs.proofs.sums.leaving.Goals as goal

pub weighed-requires-clause-high : goal.weighed-requires-clause-high
weighed-requires-clause-high c = weight_returned c.at-pair.result.now.weight
    (weight_at_most c.args.list.now c.loop-k.k c.at-pair.result.now c.requires.weights c.at-pair.ensures.item)

pub sum-all-requires-clause-left : goal.sum-all-requires-clause-left
sum-all-requires-clause-left c = omega (arith, part_bound c.loop-k.invariant, heavy_at_most c.args.list.now c.requires.weights)

pub sum-all-requires-clause-right : goal.sum-all-requires-clause-right
sum-all-requires-clause-right c =
    let pair = c.at-pair.result.now in
    let high = weight_at_most c.args.list.now c.loop-k.k pair c.requires.weights c.at-pair.ensures.item in
    let within = weighed_within c.weighed.result pair.weight high c.weighed.ensures.bound in
    let back = returned c.weighed.result (omega (arith, within, high)) in
    rw back (omega (arith, within, high))

pub loop-k-preserved : goal.loop-k-preserved
loop-k-preserved c =
    let pair = c.at-pair.result.now in
    let high = weight_at_most c.args.list.now c.loop-k.k pair c.requires.weights c.at-pair.ensures.item in
    let within = weighed_within c.weighed.result pair.weight high c.weighed.ensures.bound in
    let is = weighed_is c.weighed.result pair.weight c.in_ok-amount.amount _ high c.in_ok-amount.ensures.bound c.in_ok-amount.ensures.value c.weighed.ensures.value in
    next_part c.weighed.result c.sum-all.result pair (omega arith) c.at-pair.ensures.item c.loop-k.invariant is within
    (omega (arith, heavy_at_most c.args.list.now c.requires.weights)) c.sum-all.ensures

pub returns-clause-value : goal.returns-clause-value
returns-clause-value c = whole_part (omega arith) c.loop-k.invariant
    ∙ sym (weighted_pairs (deviated_pay c.args.side c.args.game.now c.args.trigger c.args.choice.now) c.args.list.now)

pub returns-clause-bound : goal.returns-clause-bound
returns-clause-bound c = omega (arith, part_bound c.loop-k.invariant, heavy_at_most c.args.list.now c.requires.weights)
