use Rattle.text_pieces.proofs.Pieces.{Adds-join}
use Rattle.answer_text.proofs.verdicts.add_wide.Goals as goal

pub returns : goal.returns
returns c =
    let name = rw c.name_of.ensures at c.in_ok-add_bytes-2.ensures.ok in
    Adds-join c.in_ok-add_bytes.ensures.ok name
