use Rattle.text_pieces.proofs.Pieces.{Adds-join}
use Rattle.corr_run.specs.OneNode.{sides}
use Rattle.corr_run.proofs.one_node.add_sides.Goals as goal

pub returns : goal.returns
unfolding sides
returns c =
    Adds-join (Adds-join (Adds-join c.in_ok-add_side.ensures c.in_ok-add_side-2.ensures) c.in_ok-add_side-3.ensures) c.in_ok-add_side-4.ensures
