use Rattle.cert_check.proofs.OneFault.{one_block_fault}
use Rattle.cert_check.proofs.laws.blocks_have_one_fault.Goals as goal

pub returns-clause-item : goal.returns-clause-item
returns-clause-item c = λ g lp notion block at other one two a b. (one_block_fault g lp notion block at other one two a b).0

pub returns-clause-cause : goal.returns-clause-cause
returns-clause-cause c = λ g lp notion block at other one two a b. (one_block_fault g lp notion block at other one two a b).1
