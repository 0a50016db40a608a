use Rattle.text_pieces.proofs.Pieces.{Adds-first, Adds-join}
use Rattle.answer_text.specs.SummaryText.{summary_text}
use Rattle.answer_text.proofs.summaries.write_summary.Goals as goal

pub returns : goal.returns
unfolding summary_text
returns c =
    Adds-first c.new-out.ensures.items (Adds-join (Adds-join c.in_ok-add_head.ensures c.in_ok-add_nodes.ensures) c.in_ok-add_blocks.ensures)
