-- A node has one own sequence.
use Rattle.std.proofs.Common.{◌∙◌, sym, subst}
use Rattle.tree_recall.specs.OwnSequence.{IsOwnAt}
use Rattle.tree_recall.proofs.OwnSequences.{own_same}
use Rattle.plain_trees.proofs.triangles.have_own_alike.Goals as goal

pub returns : goal.returns
returns c =
    let g = c.args.game.now in
    let rules = c.len.ensures.rules in
    let first = c.in_ok-a.a.items in
    let second = c.in_ok-b.b.items in
    let answer = rw (c.deref.ensures.value, c.deref-2.ensures.value) at c.are_same.ensures in (
      λ h. (first, c.in_ok-a.ensures, subst (IsOwnAt g c.args.side c.args.n) (sym (answer.0 h)) c.in_ok-b.ensures),
      λ alike. answer.1 (own_same g rules c.args.side c.args.m first alike.0 c.in_ok-a.ensures alike.1
          ∙ own_same g rules c.args.side c.args.n alike.0 second alike.2 c.in_ok-b.ensures),
    )
