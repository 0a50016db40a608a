-- Each piece stands behind the ones before it.
use Rattle.text_pieces.proofs.Pieces.{Adds-join}
use Rattle.game_gen.specs.GameText.{chance_line}
use Rattle.game_gen.proofs.lines.add_chance_line.Goals as goal

pub returns : goal.returns
unfolding chance_line
returns c =
    Adds-join (Adds-join c.in_ok-add_bytes.ensures.ok c.in_ok-add_chance_actions.ensures) c.in_ok-add_bytes-2.ensures.ok
