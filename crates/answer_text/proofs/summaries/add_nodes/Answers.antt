use Rattle.text_pieces.proofs.Pieces.{Adds-join}
use Rattle.answer_text.specs.SummaryText.{nodes_text}
use Rattle.answer_text.proofs.summaries.add_nodes.Goals as goal

pub returns : goal.returns
unfolding nodes_text
returns c =
    let nodes = rw c.nodes_of.ensures at c.in_ok-add_number.ensures.ok in
    Adds-join (Adds-join c.in_ok-add_bytes.ensures.ok nodes) c.in_ok-add_bytes-2.ensures.ok
