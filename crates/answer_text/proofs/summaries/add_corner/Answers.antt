use Rattle.text_pieces.proofs.Pieces.{Adds-join}
use Rattle.answer_text.specs.SummaryText.{corner_summary}
use Rattle.answer_text.proofs.summaries.add_corner.Goals as goal

pub returns : goal.returns
unfolding corner_summary
returns c =
    Adds-join (Adds-join (Adds-join (Adds-join c.in_ok-add_bytes.ensures.ok c.in_ok-add_frac.ensures.ok) c.in_ok-add_bytes-2.ensures.ok) c.in_ok-add_frac-2.ensures.ok) c.in_ok-add_bytes-3.ensures.ok
