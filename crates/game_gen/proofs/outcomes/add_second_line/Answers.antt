-- Each piece stands behind the ones before it.
use Rattle.text_pieces.proofs.Pieces.{Adds-join}
use Rattle.game_gen.specs.GameText.{second_line}
use Rattle.game_gen.proofs.outcomes.add_second_line.Goals as goal

pub returns : goal.returns
unfolding second_line
returns c =
    Adds-join (Adds-join c.in_ok-add_bytes.ensures.ok c.in_ok-add_number.ensures.ok) c.in_ok-add_bytes-2.ensures.ok
