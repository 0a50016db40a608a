use Rattle.notion_solve.proofs.RightBlocks.{right_block}
use Rattle.notion_solve.proofs.laws.shown_blocks_are_right.Goals as goal

pub returns : goal.returns
returns c = right_block
