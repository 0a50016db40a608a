-- What is shown of a notion's program is right.
use Rattle.notion_solve.proofs.RightBlocks.{right_for}
use Rattle.notion_solve.proofs.blocks.solve.Goals as goal

pub returns-clause-right : goal.returns-clause-right
returns-clause-right c = right_for c.args.notion c.args.game.now c.args.pairs.now c.in_ok-block.block c.len.ensures.rules c.len-2.ensures.rules
    c.requires.whose c.in_ok-block.ensures.ranges c.in_ok-block.ensures.shown c.in_ok-block.ensures.belt
