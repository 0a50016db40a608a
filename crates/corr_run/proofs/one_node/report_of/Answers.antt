use Rattle.text_pieces.proofs.Pieces.{Adds-join, Adds-first}
use Rattle.corr_run.specs.OneNode.{one_node_report}
use Rattle.corr_run.proofs.one_node.report_of.Goals as goal

pub returns : goal.returns
unfolding one_node_report
returns c =
    Adds-first c.new-out.ensures.items (Adds-join (Adds-join (Adds-join (Adds-join c.in_ok-add_bytes.ensures.ok c.in_ok-add_selected.ensures) c.in_ok-add_selected-2.ensures) c.in_ok-add_selected-3.ensures) c.in_ok-add_bytes-2.ensures.ok)
