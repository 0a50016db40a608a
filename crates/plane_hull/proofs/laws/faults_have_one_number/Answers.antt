use Rattle.plane_hull.proofs.OneFault.{one_fault}
use Rattle.plane_hull.proofs.laws.faults_have_one_number.Goals as goal

pub returns : goal.returns
returns c = one_fault
