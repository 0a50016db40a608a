-- The kids of a chance node are in the list; no kid so far shares a set with another one.
use Rattle.std.proofs.Common.{◌≡◌, refl, inl, inr, arith}
use Rattle.std.proofs.lemmas.Bool.{false≢true, cases_lt}
use Rattle.triangle_test.proofs.Ruled.{ruled_out}
use Rattle.plain_trees.specs.Chances.{PartsFrom}
use Rattle.plain_trees.proofs.Parting.{kid_in, kid_there, none_parts, same_kid}
use Rattle.plain_trees.proofs.chances.parts_a_set.Goals as goal

pub parts_from-requires-clause-inside : goal.parts_from-requires-clause-inside
parts_from-requires-clause-inside c =
    kid_in c.args.game.now c.node.ensures.rules c.args.n c.in-Chance.kids (rw c.in-Chance.is at c.node.ensures.item)

pub parts_from-requires-clause-kid_in : goal.parts_from-requires-clause-kid_in
parts_from-requires-clause-kid_in c =
    let node = rw c.in-Chance.is at c.node.ensures.item in
    rw c.at.ensures.item (kid_in c.args.game.now c.node.ensures.rules c.args.n c.in-Chance.kids node c.loop-k.k 0 (omega arith))

pub returns-then-parts_from : goal.returns-then-parts_from
returns-then-parts_from c =
    let kids = c.in-Chance.kids in
    let node = rw c.in-Chance.is at c.node.ensures.item in
    let there = kid_there kids c.loop-k.k c.at.result.now (omega arith) c.at.ensures.item in (
      λ h. (kids, c.loop-k.k, c.at.result.now, node, there, c.parts_from.ensures.0 c.if-parts_from.true),
      λ parts. refl,
    )

pub loop-k-preserved : goal.loop-k-preserved
loop-k-preserved c = λ j kid less there parts. elim (cases_lt j c.loop-k.k) [
  | inl before ↦ c.loop-k.invariant j kid before there parts
  | inr last ↦
      let here : j ≡ c.loop-k.k = omega arith in
      let same : c.at.result.now ≡ kid = same_kid c.in-Chance.kids j c.loop-k.k kid c.at.result.now here c.at.ensures.item there in
      let from : PartsFrom c.args.game.now c.in-Chance.kids c.at.result.now = rw same parts in
      ruled_out _ c.if-parts_from.false (c.parts_from.ensures.1 from)
]

pub returns : goal.returns
returns c =
    let kids = c.in-Chance.kids in
    let node = rw c.in-Chance.is at c.node.ensures.item in (
      λ h. absurd (false≢true h),
      λ parts. absurd (none_parts c.args.game.now c.args.n kids node (λ j kid low. c.loop-k.invariant j kid (omega arith)) parts),
    )
