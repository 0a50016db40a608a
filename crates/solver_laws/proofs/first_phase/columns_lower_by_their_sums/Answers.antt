use Rattle.solver_laws.proofs.FirstPhase.{lowers_by_sum, none_artificial}
use Rattle.solver_laws.proofs.first_phase.columns_lower_by_their_sums.Goals as goal

pub returns-clause-program : goal.returns-clause-program
returns-clause-program c = lowers_by_sum

pub returns-clause-artificial : goal.returns-clause-artificial
returns-clause-artificial c = none_artificial
