use Rattle.solver_laws.proofs.OneStep.{same_on, two_swapped}
use Rattle.solver_laws.proofs.bases.bases_are_one_in_any_order.Goals as goal

pub returns-clause-on : goal.returns-clause-on
returns-clause-on c = same_on

pub returns-clause-two : goal.returns-clause-two
returns-clause-two c = two_swapped
