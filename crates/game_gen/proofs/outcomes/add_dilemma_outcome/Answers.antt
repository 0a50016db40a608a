-- Each piece stands behind the ones before it.
use Rattle.text_pieces.proofs.Pieces.{Adds-join}
use Rattle.game_gen.specs.GameText.{dilemma_outcome}
use Rattle.game_gen.proofs.outcomes.add_dilemma_outcome.Goals as goal

pub returns : goal.returns
unfolding dilemma_outcome
returns c =
    Adds-join (Adds-join (Adds-join c.in_ok-add_bargain_lines.ensures c.in_ok-add_bytes.ensures.ok) c.in_ok-add_second_line.ensures) c.in_ok-add_bytes-2.ensures.ok
