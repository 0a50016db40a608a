-- Each piece stands behind the ones before it.
use Rattle.text_pieces.proofs.Pieces.{Adds-join}
use Rattle.game_gen.specs.GameText.{drawn_leaves}
use Rattle.game_gen.proofs.outcomes.add_drawn_leaves.Goals as goal

pub returns-clause-text : goal.returns-clause-text
unfolding drawn_leaves
returns-clause-text c =
    let second = rw c.in_ok-add_drawn_leaf.ensures.same_seed at c.in_ok-add_drawn_leaf-2.ensures.text in
    Adds-join c.in_ok-add_drawn_leaf.ensures.text second
