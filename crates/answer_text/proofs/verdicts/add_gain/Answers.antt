use Rattle.text_pieces.proofs.Pieces.{Adds-join}
use Rattle.answer_text.specs.VerdictText.{cause_text}
use Rattle.answer_text.proofs.verdicts.add_gain.Goals as goal

pub returns : goal.returns
unfolding cause_text
returns c =
    let player = rw c.player.ensures at c.in_ok-add_bytes-2.ensures.ok in
    Adds-join c.in_ok-add_bytes.ensures.ok player
