use Rattle.text_pieces.proofs.Pieces.{Adds-join}
use Rattle.corr_run.specs.OneNode.{corner}
use Rattle.corr_run.proofs.one_node.add_corner.Goals as goal

pub returns : goal.returns
unfolding corner
returns c =
    Adds-join (Adds-join (Adds-join (Adds-join c.in_ok-add_bytes.ensures.ok c.in_ok-add_number.ensures.ok) c.in_ok-add_bytes-2.ensures.ok) c.in_ok-add_number-2.ensures.ok) c.in_ok-add_bytes-3.ensures.ok
