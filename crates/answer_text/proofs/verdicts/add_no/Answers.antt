use Rattle.text_pieces.proofs.Pieces.{Adds-join}
use Rattle.answer_text.specs.VerdictText.{verdict_text}
use Rattle.answer_text.proofs.verdicts.add_no.Goals as goal

pub returns : goal.returns
unfolding verdict_text
returns c =
    let name = rw c.name_of.ensures at c.in_ok-add_bytes-2.ensures.ok in
    Adds-join (Adds-join (Adds-join (Adds-join c.in_ok-add_bytes.ensures.ok name) c.in_ok-add_bytes-3.ensures.ok) c.in_ok-add_item.ensures) c.in_ok-add_bytes-4.ensures.ok
