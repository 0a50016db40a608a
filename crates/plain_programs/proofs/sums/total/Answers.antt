-- One weight more is added, and the sum stays within 2^62.
use Rattle.std.proofs.Common.{sym, ◌∙◌, arith}
use Rattle.plain_programs.proofs.WeightedSums.{heavy_at_most, next_part, not_negative, part_bound, total_pairs, weight_at_most, weight_low}
use Rattle.plain_programs.proofs.WeightedSums.{weight_returned, whole_part}
use Rattle.plain_programs.proofs.sums.total.Goals as goal

pub sum-all-requires-clause-left : goal.sum-all-requires-clause-left
sum-all-requires-clause-left c = omega (arith, part_bound c.loop-k.invariant, heavy_at_most c.args.list.now c.requires)

pub sum-all-requires-clause-right : goal.sum-all-requires-clause-right
sum-all-requires-clause-right c = omega (
  arith,
  weight_returned c.at.result.now.weight (weight_at_most c.args.list.now c.loop-k.k c.at.result.now c.requires c.at.ensures.item),
)

pub loop-k-preserved : goal.loop-k-preserved
loop-k-preserved c =
    let pair = c.at.result.now in
    let low = weight_low c.args.list.now c.loop-k.k pair c.requires (omega arith) c.at.ensures.item in
    next_part pair.weight c.sum-all.result pair (omega arith) c.at.ensures.item c.loop-k.invariant (not_negative pair.weight low)
    (omega arith) (omega (arith, heavy_at_most c.args.list.now c.requires)) c.sum-all.ensures

pub returns-clause-value : goal.returns-clause-value
returns-clause-value c = whole_part (omega arith) c.loop-k.invariant ∙ sym (total_pairs c.args.list.now)

pub returns-clause-bound : goal.returns-clause-bound
returns-clause-bound c = omega (arith, part_bound c.loop-k.invariant, heavy_at_most c.args.list.now c.requires)
