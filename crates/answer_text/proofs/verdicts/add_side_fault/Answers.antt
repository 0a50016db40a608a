use Rattle.text_pieces.proofs.Pieces.{Adds-join}
use Rattle.answer_text.specs.VerdictText.{item_text}
use Rattle.answer_text.proofs.verdicts.add_side_fault.Goals as goal

pub returns : goal.returns
unfolding item_text
returns c =
    Adds-join (Adds-join (Adds-join c.in_ok-add_bytes.ensures.ok c.in_ok-add_number.ensures.ok) c.in_ok-add_bytes-2.ensures.ok) c.in_ok-add_cause.ensures
