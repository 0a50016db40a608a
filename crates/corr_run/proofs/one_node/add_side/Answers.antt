use Rattle.text_pieces.proofs.Pieces.{Adds-join}
use Rattle.corr_run.specs.OneNode.{side}
use Rattle.corr_run.proofs.one_node.add_side.Goals as goal

pub returns : goal.returns
unfolding side
returns c =
    let first = rw c.further_rows.ensures at c.in_ok-add_multipliers.ensures in
    let second = rw c.further_rows-2.ensures at c.in_ok-add_multipliers-2.ensures in
    Adds-join (Adds-join (Adds-join (Adds-join c.in_ok-add_bytes.ensures.ok c.in_ok-add_bytes-2.ensures.ok) c.in_ok-add_bytes-3.ensures.ok) first) second
