-- Each piece stands behind the ones before it.
use Rattle.text_pieces.proofs.Pieces.{Adds-join}
use Rattle.game_gen.specs.GameText.{chain_move}
use Rattle.game_gen.proofs.outcomes.add_chain_move.Goals as goal

pub returns-clause-text : goal.returns-clause-text
unfolding chain_move
returns-clause-text c =
    Adds-join c.in_ok-add_move_line.ensures c.in_ok-add_drawn_leaf.ensures.text
