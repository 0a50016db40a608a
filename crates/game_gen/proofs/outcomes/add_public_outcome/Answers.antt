-- Each piece stands behind the ones before it.
use Rattle.text_pieces.proofs.Pieces.{Adds-join}
use Rattle.game_gen.specs.GameText.{public_outcome}
use Rattle.game_gen.proofs.outcomes.add_public_outcome.Goals as goal

pub returns-clause-text : goal.returns-clause-text
unfolding public_outcome
returns-clause-text c =
    let lower = rw c.in_ok-add_drawn_leaves.ensures.same_seed at c.in_ok-add_drawn_leaves-2.ensures.text in
    Adds-join (Adds-join (Adds-join c.in_ok-add_bargain_lines.ensures c.in_ok-add_drawn_leaves.ensures.text) c.in_ok-add_second_line.ensures) lower
