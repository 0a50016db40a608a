-- Each piece stands behind the ones before it.
use Rattle.text_pieces.proofs.Pieces.{Adds-join}
use Rattle.game_gen.specs.GameText.{game_lines}
use Rattle.game_gen.proofs.games.add_public_lines.Goals as goal

pub returns : goal.returns
unfolding game_lines
returns c =
    Adds-join c.in_ok-add_chance_line.ensures c.in_ok-add_publics.ensures
