-- A node has one own sequence.
use Rattle.std.proofs.Common.{◌∙◌, refl}
use Rattle.tree_recall.proofs.OwnSequences.{own_same}
use Rattle.plain_trees.proofs.own_moves.are_alike_at.Goals as goal

pub returns : goal.returns
returns c =
    let g = c.args.game.now in
    let rules = c.len.ensures.rules in
    let first = c.in_ok-a.a.items in
    let second = c.in_ok-b.b.items in
    let answer = rw (c.deref.ensures.value, c.deref-2.ensures.value) at c.are_same.ensures in (
      λ h a b one own_a own_b.
          own_same g rules c.args.side c.args.m a first own_a c.in_ok-a.ensures
          ∙ answer.0 h
          ∙ own_same g rules c.args.side c.args.n second b c.in_ok-b.ensures own_b,
      λ all. answer.1 (all first second (c.if-not-are_of_one_set.ensures.0 refl) c.in_ok-a.ensures c.in_ok-b.ensures),
    )
