-- Each piece stands behind the ones before it.
use Rattle.text_pieces.proofs.Pieces.{Adds-join, Adds-first}
use Rattle.game_gen.specs.GameText.{game_text}
use Rattle.game_gen.proofs.games.generate.Goals as goal

pub returns-clause-ok : goal.returns-clause-ok
unfolding game_text
returns-clause-ok c = Adds-first c.new-out.ensures.items (Adds-join c.in_ok-add_title.ensures c.in_ok-add_lines.ensures)
