-- A pair adds what it pays.
use Rattle.std.proofs.Common.{rules, ◌≤◌, ◌+ℤ◌, refl, sym, ap₂, ◌∙◌, length, FitsSigned, arith}
use Rattle.std.specs.Int.{w128}
use Rattle.std.proofs.lemmas.Int.{to_z-of_z}
use Rattle.std.proofs.lemmas.List.{take_all}
use Rattle.report_form.specs.Ranges.{IsPair}
use Rattle.deviation_gains.specs.Planned.{IsDrawn}
use Rattle.deviation_gains.proofs.GainFollowed.{all_next, all_none}
use Rattle.deviation_gains.proofs.Sizes.{at_item}
use Rattle.deviation_gains.proofs.deviations.followed.Goals as goal

pub loop-k-init : goal.loop-k-init
loop-k-init c = (
  omega arith,
  λ passes tells each. sym (all_none c.args.trigger.now.side c.args.game.now passes c.args.list.now (length c.args.game.now.nodes)),
)

pub follow_pair-total-requires-clause-drawn : goal.follow_pair-total-requires-clause-drawn
follow_pair-total-requires-clause-drawn c =
    at_item (IsDrawn c.args.game.now) c.args.list.now c.loop-k.k c.at.result.now c.requires.drawn.0 c.at.ensures.item

pub loop-k-preserved : goal.loop-k-preserved
loop-k-preserved c =
    let r = c.follow_pair-total.result in
    let fits : FitsSigned w128 r = search rules in
    rw (to_z-of_z w128 r fits) (
      omega (arith, c.follow_pair-total.ensures.bound, c.loop-k.invariant.0),
      λ passes tells each.
          let pair = c.at.result.now in
          let is = at_item IsPair c.args.list.now c.loop-k.k pair each c.at.ensures.item in
          c.follow_pair-total.ensures.value passes tells
          ∙ ap₂ (λ x y. x +ℤ y) (c.loop-k.invariant.1 passes tells each) refl
          ∙ sym (all_next c.args.trigger.now.side c.args.game.now passes c.args.list.now c.loop-k.k (length c.args.game.now.nodes) pair
          c.at.ensures.item is.0.0),
    )

pub returns : goal.returns
returns c =
    record {
      value = λ passes tells each.
          let all : length c.args.list.now ≤ c.loop-k.k = omega (arith, c.len-k-end.ensures.count, c.loop-k-test.false) in
          rw (take_all c.loop-k.k c.args.list.now all) at (c.loop-k.invariant.1 passes tells each);
    }
