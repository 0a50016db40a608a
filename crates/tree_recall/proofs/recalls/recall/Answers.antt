-- What holds for each player holds for the game.
use Rattle.std.proofs.Common.{◌∙◌, map}
use Rattle.std.proofs.lemmas.List.{length-map}
use Rattle.corr_game.specs.declared.sides.Side.TheVariants.{One, Two}
use Rattle.tree_recall.proofs.Progress.{IsSideOf, last_of, recall_of}
use Rattle.tree_recall.proofs.recalls.recall.Goals as goal

pub returns-in-Ok-Ok-clause-recalled : goal.returns-in-Ok-Ok-clause-recalled
returns-in-Ok-Ok-clause-recalled c =
    let g = c.args.game.now in
    let one : IsSideOf One g (map last_of c.in-Ok-Ok.one.items) = record {
      count = length-map c.in-Ok-Ok.one.items last_of ∙ (rw c.in-Ok-Ok.is-0 at c.side_recall-one.ensures.count);
      earlier = rw c.in-Ok-Ok.is-0 at c.side_recall-one.ensures.earlier;
      of_tree = rw c.in-Ok-Ok.is-0 at c.side_recall-one.ensures.of_tree;
      perfect = rw c.in-Ok-Ok.is-0 at c.side_recall-one.ensures.perfect;
    } in
    let two : IsSideOf Two g (map last_of c.in-Ok-Ok.two.items) = record {
      count = length-map c.in-Ok-Ok.two.items last_of ∙ (rw c.in-Ok-Ok.is-1 at c.side_recall-two.ensures.count);
      earlier = rw c.in-Ok-Ok.is-1 at c.side_recall-two.ensures.earlier;
      of_tree = rw c.in-Ok-Ok.is-1 at c.side_recall-two.ensures.of_tree;
      perfect = rw c.in-Ok-Ok.is-1 at c.side_recall-two.ensures.perfect;
    } in
    recall_of g (map last_of c.in-Ok-Ok.one.items) (map last_of c.in-Ok-Ok.two.items) one two

pub returns-in-Err-Err-clause-named : goal.returns-in-Err-Err-clause-named
returns-in-Err-Err-clause-named c =
    c.earlier.ensures.named c.args.game.now (rw c.in-Err-Err.is-0 at c.side_recall-one.ensures.named) (rw c.in-Err-Err.is-1 at c.side_recall-two.ensures.named)

pub returns-in-Err-Err-clause-least : goal.returns-in-Err-Err-clause-least
returns-in-Err-Err-clause-least c =
    c.earlier.ensures.least c.args.game.now (rw c.in-Err-Err.is-0 at c.side_recall-one.ensures.least) (rw c.in-Err-Err.is-1 at c.side_recall-two.ensures.least)
