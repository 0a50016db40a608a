use Rattle.text_pieces.proofs.Pieces.{Adds-join}
use Rattle.answer_text.specs.VerdictText.{verdict_text}
use Rattle.answer_text.proofs.verdicts.add_partial.Goals as goal

pub returns : goal.returns
unfolding verdict_text
returns c =
    Adds-join (Adds-join c.in_ok-add_bytes.ensures.ok c.in_ok-add_wide_names.ensures) c.in_ok-add_bytes-2.ensures.ok
