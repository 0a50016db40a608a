-- A notion that isn't selected adds nothing.
use Rattle.text_pieces.proofs.Pieces.{Adds-nil}
use Rattle.corr_run.specs.OneNode.{block_if}
use Rattle.corr_run.proofs.one_node.add_selected.Goals as goal

pub returns-then-not-is_selected : goal.returns-then-not-is_selected
unfolding block_if
returns-then-not-is_selected c = rw c.if-not-is_selected.true (Adds-nil c.args.out.now.items)

pub returns : goal.returns
unfolding block_if
returns c = rw c.if-not-is_selected.false c.in_ok-add_block.ensures
