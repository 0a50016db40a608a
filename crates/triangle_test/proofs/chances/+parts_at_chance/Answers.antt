-- A kid stands behind its node and in the list. What is under a node is under the common kid, and parts at or below it; without
-- one it parts at the node, if at all.
use Rattle.std.proofs.Common.{arith, refl, subst, sym}
use Rattle.std.proofs.lemmas.Bool.{false≢true}
use Rattle.corr_game.specs.declared.nodes.Node.TheVariants.{Chance, Choice, Leaf}
use Rattle.tree_recall.proofs.Kids.{kid_below}
use Rattle.triangle_test.specs.PublicChance.{IsChance}
use Rattle.triangle_test.proofs.Partings.{below_chance, kid_is, none_at_leaf, part_at_kid, part_from_kid, part_here, part_without, towards_kid}
use Rattle.triangle_test.proofs.chances.+parts_at_chance.Goals as goal

pub parts_at_chance-requires : goal.parts_at_chance-requires
parts_at_chance-requires t c =
    let g = c.args.game.now in
    let rules = c.node.ensures.rules in
    let n = c.args.above in
    let node = Chance c.in-Chance.kids in
    let there = rw c.in-Chance.is at c.node.ensures.item in
    let common = c.in-Some.ensures.some in
    let kid = c.in-Some.kid in
    let low = kid_below g rules n common.0 kid (kid_is g rules n node there common.0 kid common.1) in
    let one = towards_kid g rules n node there common.0 kid c.args.first common.1 common.2 c.requires.first_under.0 in
    let two = towards_kid g rules n node there common.0 kid c.args.second common.1 common.3 c.requires.second_under.0 in
    (omega (arith, low.0, low.1), (low.1, ((one, c.requires.first_under.1), (two, c.requires.second_under.1))))

pub parts_at_chance-requires-in-Some-common_kid : goal.parts_at_chance-requires-in-Some-common_kid
parts_at_chance-requires-in-Some-common_kid t c =
    let g = c.args.game.now in
    let rules = c.node.ensures.rules in
    let n = c.args.above in
    let node = Choice c.in-Choice.side c.in-Choice.set c.in-Choice.kids in
    let there = rw c.in-Choice.is at c.node.ensures.item in
    let common = c.in-Some-common_kid.ensures.some in
    let kid = c.in-Some-common_kid.kid in
    let low = kid_below g rules n common.0 kid (kid_is g rules n node there common.0 kid common.1) in
    let one = towards_kid g rules n node there common.0 kid c.args.first common.1 common.2 c.requires.first_under.0 in
    let two = towards_kid g rules n node there common.0 kid c.args.second common.1 common.3 c.requires.second_under.0 in
    (omega (arith, low.0, low.1), (low.1, ((one, c.requires.first_under.1), (two, c.requires.second_under.1))))

pub returns-in-Leaf : goal.returns-in-Leaf
returns-in-Leaf t c =
    let g = c.args.game.now in
    let node = Leaf c.in-Leaf.pay in
    let there = rw c.in-Leaf.is at c.node.ensures.item in (
      λ h. absurd (false≢true h),
      λ part. absurd (none_at_leaf g c.node.ensures.rules c.args.above node there refl (λ is. (let e = is.1 in cc)) c.args.first
          c.args.second part),
    )

pub returns-in-Some : goal.returns-in-Some
returns-in-Some t c =
    let g = c.args.game.now in
    let rules = c.node.ensures.rules in
    let n = c.args.above in
    let node = Chance c.in-Chance.kids in
    let there = rw c.in-Chance.is at c.node.ensures.item in
    let common = c.in-Some.ensures.some in
    let kid = c.in-Some.kid in
    let one = c.requires.first_under.0 in
    let two = c.requires.second_under.0 in (
      λ h. part_from_kid g rules n node there c.args.first c.args.second common.0 kid common.1 (c.parts_at_chance.ensures.0 h),
      λ part. c.parts_at_chance.ensures.1 (part_at_kid g rules n node there c.args.first c.args.second kid common one two part),
    )

pub returns-in-Some-common_kid : goal.returns-in-Some-common_kid
returns-in-Some-common_kid t c =
    let g = c.args.game.now in
    let rules = c.node.ensures.rules in
    let n = c.args.above in
    let node = Choice c.in-Choice.side c.in-Choice.set c.in-Choice.kids in
    let there = rw c.in-Choice.is at c.node.ensures.item in
    let common = c.in-Some-common_kid.ensures.some in
    let kid = c.in-Some-common_kid.kid in
    let one = c.requires.first_under.0 in
    let two = c.requires.second_under.0 in (
      λ h. part_from_kid g rules n node there c.args.first c.args.second common.0 kid common.1
          (c.parts_at_chance-in-Some-common_kid.ensures.0 h),
      λ part. c.parts_at_chance-in-Some-common_kid.ensures.1 (part_at_kid g rules n node there c.args.first c.args.second kid common one
          two part),
    )

pub returns-in-None : goal.returns-in-None
returns-in-None t c =
    let g = c.args.game.now in
    let n = c.args.above in
    let there = rw c.in-Chance.is at c.node.ensures.item in
    let is : IsChance g n = (c.in-Chance.kids, there) in
    let one = below_chance g n c.args.first is c.requires.first_under in
    let two = below_chance g n c.args.second is c.requires.second_under in (
      λ h. part_without g c.node.ensures.rules n (Chance c.in-Chance.kids) there c.args.first c.args.second is one two
          c.in-None.ensures.none,
      λ part. refl,
    )

pub returns-in-None-common_kid : goal.returns-in-None-common_kid
returns-in-None-common_kid t c =
    let g = c.args.game.now in
    let n = c.args.above in
    let node = Choice c.in-Choice.side c.in-Choice.set c.in-Choice.kids in
    let there = rw c.in-Choice.is at c.node.ensures.item in (
      λ h. absurd (false≢true h),
      λ part.
          let same = part_here g c.node.ensures.rules n node there c.args.first c.args.second c.in-None-common_kid.ensures.none part in
          let is = subst (IsChance g) (sym same) part.6 in
          absurd (let e = is.1 in cc),
    )
