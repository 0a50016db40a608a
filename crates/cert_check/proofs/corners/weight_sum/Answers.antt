-- One weight more is added.
use Rattle.std.proofs.Common.{◌+◌, ◌*◌, ◌^◌, ◌≤◌, pos, unsigned_abs, to_z, of_z, arith}
use Rattle.std.specs.Int.{w128}
use Rattle.corr_num.proofs.MagnitudeBounds.{sum_magnitude}
use Rattle.equilibrium.specs.Distribution.{total, entries_of}
use Rattle.report_form.specs.Ranges.{IsPair}
use Rattle.cert_check.proofs.Elements.{all_at}
use Rattle.cert_check.proofs.PairSums.{none_after, total_step}
use Rattle.deviation_gains.proofs.Sizes.{sum_passed}
use Rattle.cert_check.proofs.corners.weight_sum.Goals as goal

pub loop-k-preserved : goal.loop-k-preserved
loop-k-preserved c =
    let k = c.loop-k.k in
    let list = c.args.list.now in
    let pair = c.at.result.now in
    let before = to_z w128 c.loop-k.total-bits in
    let ranges = all_at IsPair list k pair c.requires.ranges c.at.ensures.item in
    let weight = ranges.0 in
    let few : k ≤ 65535 = omega (arith, c.loop-k-test.true, c.len-k-end.ensures.count, c.requires.few) in
    let small : unsigned_abs before ≤ 2 ^ 120 = omega (arith, few, c.loop-k.invariant.0) in
    let narrow : unsigned_abs pair.weight ≤ 2 ^ 120 = omega (arith, weight.1) in
    let value = sum_passed c.sum-total.result before pair.weight small narrow c.sum-total.ensures in
    let size : unsigned_abs (to_z w128 (of_z w128 c.sum-total.result)) ≤ (k + 1) * 2 ^ 62 =
    rw value (omega (arith, sum_magnitude before pair.weight, c.loop-k.invariant.0, weight.1)) in
    (size, total_step list k pair c.at.ensures.item weight.0 before _ (total (entries_of list)) c.loop-k.invariant.1 value)

pub returns : goal.returns
returns c =
    none_after (λ entry. pos entry.weight) c.args.list.now c.loop-k.k (omega (arith, c.loop-k-test.false, c.len-k-end.ensures.count))
    (to_z w128 c.loop-k.total-bits) (total (entries_of c.args.list.now)) c.loop-k.invariant.1
