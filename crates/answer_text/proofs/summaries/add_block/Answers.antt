use Rattle.text_pieces.proofs.Pieces.{Adds-join}
use Rattle.answer_text.specs.SummaryText.{block_summary}
use Rattle.answer_text.proofs.summaries.add_block.Goals as goal

pub returns : goal.returns
unfolding block_summary
returns c =
    let name = rw c.name_of.ensures at c.in_ok-add_bytes.ensures.ok in
    Adds-join name c.in_ok-add_found.ensures
