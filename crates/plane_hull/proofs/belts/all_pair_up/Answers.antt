-- The neighbours that were tested are the only ones.
use Rattle.std.proofs.Common.{ℕ, length, refl, subst, below_more, arith}
use Rattle.plane_hull.specs.Belt.{IsNext}
use Rattle.plane_hull.specs.Round.{PairsUp}
use Rattle.plane_hull.proofs.Reading.{all_pairs, pairs_told}
use Rattle.plane_hull.proofs.belts.all_pair_up.Goals as goal

pub loop-side-preserved : goal.loop-side-preserved
loop-side-preserved c =
    let sides = c.args.sides.now in
    let here = c.loop-side.side in
    let before : IsNext (length sides) c.before_of.result here =
    subst (λ (m : ℕ). IsNext m c.before_of.result here) c.len.ensures.count c.before_of.ensures.before in
    let behind : IsNext (length sides) here c.next_of.result =
    subst (λ (m : ℕ). IsNext m here c.next_of.result) c.len-in-loop-side.ensures.count c.next_of.ensures.next in
    below_more (λ (k : ℕ). PairsUp sides k) here c.loop-side.invariant
    (pairs_told sides c.before_of.result here c.next_of.result _ _ _ before behind c.at-before.ensures.item c.at.ensures.item c.at-behind.ensures.item
    (c.pairs_with.ensures.0 c.if-not-pairs_with.false))

pub returns : goal.returns
returns c = (λ _. all_pairs c.args.sides.now c.loop-side.side (omega arith) c.loop-side.invariant, λ _. refl)
