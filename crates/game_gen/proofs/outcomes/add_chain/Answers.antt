-- Each piece stands behind the ones before it.
use Rattle.std.proofs.Common.{◌∙◌}
use Rattle.text_pieces.proofs.Pieces.{Adds-join}
use Rattle.game_gen.specs.GameText.{chain_moves}
use Rattle.game_gen.proofs.outcomes.add_chain.Goals as goal

pub returns : goal.returns
unfolding chain_moves
returns c =
    let moves = rw c.new-draws.ensures.seed at c.in_ok-add_chain_moves.ensures.text in
    let leaf = rw (c.in_ok-add_chain_moves.ensures.same_seed ∙ c.new-draws.ensures.seed) at c.in_ok-add_drawn_leaf.ensures.text in
    Adds-join moves leaf
