use Rattle.text_pieces.proofs.Pieces.{Adds-join}
use Rattle.corr_run.specs.OneNode.{block}
use Rattle.corr_run.proofs.one_node.add_block.Goals as goal

pub returns : goal.returns
unfolding block
returns c =
    let name = rw c.name_of.ensures at c.in_ok-add_bytes-2.ensures.ok in
    Adds-join (Adds-join (Adds-join (Adds-join (Adds-join c.in_ok-add_bytes.ensures.ok name) c.in_ok-add_bytes-3.ensures.ok) c.in_ok-add_corner.ensures) c.in_ok-add_bytes-4.ensures.ok) c.in_ok-add_sides.ensures
