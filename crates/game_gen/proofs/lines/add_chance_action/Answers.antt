-- Each piece stands behind the ones before it.
use Rattle.text_pieces.proofs.Pieces.{Adds-join}
use Rattle.game_gen.specs.GameText.{chance_action}
use Rattle.game_gen.proofs.lines.add_chance_action.Goals as goal

pub returns : goal.returns
unfolding chance_action
returns c =
    Adds-join (Adds-join (Adds-join (Adds-join c.in_ok-add_bytes.ensures.ok c.in_ok-add_number.ensures.ok) c.in_ok-add_bytes-2.ensures.ok) c.in_ok-add_number-2.ensures.ok) c.in_ok-add_bytes-3.ensures.ok
