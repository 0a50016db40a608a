-- What one pair more pays is added.
use Rattle.std.proofs.Common.{◌*ℤ◌, pos, arith}
use Rattle.corr_game.specs.declared.sides.Side.TheVariants.{One, Two}
use Rattle.equilibrium.specs.Deviation.{following}
use Rattle.equilibrium.specs.Distribution.{entries_of, pay}
use Rattle.report_form.specs.Ranges.{IsPair}
use Rattle.cert_check.proofs.Elements.{all_at}
use Rattle.cert_check.proofs.PairSums.{none_after, pays_step}
use Rattle.cert_check.proofs.corners.weighted_pays.Goals as goal

pub loop-k-preserved : goal.loop-k-preserved
loop-k-preserved c =
    let g = c.args.game.now in
    let k = c.loop-k.k in
    let list = c.args.list.now in
    let pair = c.at.result.now in
    let weight = (all_at IsPair list k pair c.requires.ranges c.at.ensures.item).0 in
    let added = c.plus_pair-total.ensures in (
      omega (arith, added.one_bound, c.loop-k.invariant.0),
      omega (arith, added.two_bound, c.loop-k.invariant.1),
      pays_step One g list k pair c.at.ensures.item weight.0 c.loop-k.total.one _ (following One g (entries_of list)) c.loop-k.invariant.2
          added.one,
      pays_step Two g list k pair c.at.ensures.item weight.0 c.loop-k.total.two _ (following Two g (entries_of list)) c.loop-k.invariant.3
          added.two,
    )

pub returns-clause-one : goal.returns-clause-one
returns-clause-one c =
    none_after (λ entry. pos entry.weight *ℤ pay One c.args.game.now entry) c.args.list.now c.loop-k.k
    (omega (arith, c.loop-k-test.false, c.len-k-end.ensures.count)) c.loop-k.total.one _ c.loop-k.invariant.2

pub returns-clause-two : goal.returns-clause-two
returns-clause-two c =
    none_after (λ entry. pos entry.weight *ℤ pay Two c.args.game.now entry) c.args.list.now c.loop-k.k
    (omega (arith, c.loop-k-test.false, c.len-k-end.ensures.count)) c.loop-k.total.two _ c.loop-k.invariant.3
