use Rattle.text_pieces.proofs.Pieces.{Adds-join}
use Rattle.answer_text.specs.SummaryText.{polygon_summary}
use Rattle.answer_text.proofs.summaries.add_polygon.Goals as goal

pub returns : goal.returns
unfolding polygon_summary
returns c =
    let count = rw c.len.ensures.count at c.in_ok-add_number.ensures.ok in
    Adds-join (Adds-join (Adds-join c.in_ok-add_bytes.ensures.ok count) c.in_ok-add_bytes-2.ensures.ok) c.in_ok-add_corners.ensures
