use Rattle.run_laws.proofs.RightTrue.{blocks_true}
use Rattle.run_laws.proofs.reports.right_blocks_are_true.Goals as goal

pub returns : goal.returns
returns c = blocks_true
