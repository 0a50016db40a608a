use Rattle.cert_check.proofs.Faultless.{no_fault}
use Rattle.cert_check.proofs.laws.true_blocks_have_no_fault.Goals as goal

pub returns : goal.returns
returns c = no_fault
