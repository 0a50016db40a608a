use Rattle.text_pieces.proofs.Pieces.{Adds-join}
use Rattle.answer_text.specs.SummaryText.{head_text}
use Rattle.answer_text.proofs.summaries.add_head.Goals as goal

pub returns : goal.returns
unfolding head_text
returns c =
    let kind_text = rw c.kind_text.ensures at c.in_ok-add_bytes-2.ensures.ok in
    Adds-join (Adds-join (Adds-join (Adds-join (Adds-join (Adds-join c.in_ok-add_bytes.ensures.ok kind_text) c.in_ok-add_bytes-3.ensures.ok) c.in_ok-add_number.ensures.ok) c.in_ok-add_bytes-4.ensures.ok) c.in_ok-add_number-2.ensures.ok) c.in_ok-add_bytes-5.ensures.ok
