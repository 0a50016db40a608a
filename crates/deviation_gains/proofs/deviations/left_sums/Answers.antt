-- Nothing is left before the first pair; a pair adds what it pays.
use Rattle.std.proofs.Common.{rules, refl, sym, ap₂, ◌∙◌, ◌+ℤ◌, ◌≤◌, length, arith}
use Rattle.std.proofs.lemmas.List.{take_all}
use Rattle.sequences.specs.Number.{side_of}
use Rattle.report_form.specs.Ranges.{IsPair}
use Rattle.deviation_gains.specs.Planned.{IsDrawn}
use Rattle.deviation_gains.proofs.LeftLists.{behind_next, behind_none, zeros_at}
use Rattle.deviation_gains.proofs.Sizes.{at_item, reach_zeros}
use Rattle.deviation_gains.proofs.deviations.left_sums.Goals as goal

pub loop-k-init : goal.loop-k-init
loop-k-init c =
    let zeros = c.in_ok-left.ensures.items_if_clones_equal (λ y h. search rules) in (
      refl,
      rw zeros (omega (arith, reach_zeros c.count-count.result)),
      λ passes tells each q low. rw zeros (zeros_at c.count-count.result q
          ∙ sym (behind_none c.args.trigger.now.side c.args.game.now passes
          (side_of c.args.trigger.now.side c.args.pairs.now.seqs).nodes c.args.list.now (length c.args.game.now.nodes) q)),
    )

pub loop-k-preserved : goal.loop-k-preserved
loop-k-preserved c = (
  omega (arith, c.add_pair.ensures.count, c.loop-k.invariant.0),
  omega (arith, c.add_pair.ensures.bound, c.loop-k.invariant.1),
  λ passes tells each q low.
      let pair = c.at.result.now in
      let is = at_item IsPair c.args.list.now c.loop-k.k pair each c.at.ensures.item in
      let side = c.args.trigger.now.side in
      let nodes = (side_of side c.args.pairs.now.seqs).nodes in
      let before = c.loop-k.invariant.2 passes tells each q low in
      let more = c.add_pair.ensures.sums passes tells q (omega (arith, low, c.loop-k.invariant.0)) in
      let next = behind_next side c.args.game.now passes nodes c.args.list.now c.loop-k.k (length c.args.game.now.nodes) q pair
      c.at.ensures.item is.0.0 in
      more
      ∙ ap₂ (λ x y. x +ℤ y) before refl
      ∙ sym next,
)

pub add_pair-requires-clause-drawn : goal.add_pair-requires-clause-drawn
add_pair-requires-clause-drawn c = at_item (IsDrawn c.args.game.now) c.args.list.now c.loop-k.k c.at.result.now c.requires.drawn.0 c.at.ensures.item

pub returns-clause-sums : goal.returns-clause-sums
returns-clause-sums c = λ passes tells each q low.
    let all : length c.args.list.now ≤ c.loop-k.k = omega (arith, c.len-k-end.ensures.count, c.loop-k-test.false) in
    let whole = take_all c.loop-k.k c.args.list.now all in
    rw whole at (c.loop-k.invariant.2 passes tells each q (omega (arith, low, c.loop-k.invariant.0)))
