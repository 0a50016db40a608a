use Rattle.text_pieces.proofs.Pieces.{Adds-first}
use Rattle.answer_text.proofs.verdicts.write_verdict.Goals as goal

pub returns : goal.returns
returns c =
    Adds-first c.new-out.ensures.items (c.in_ok-add_verdict.ensures)
