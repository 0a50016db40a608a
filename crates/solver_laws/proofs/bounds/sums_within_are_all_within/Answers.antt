use Rattle.solver_laws.proofs.Steps.{within_all}
use Rattle.solver_laws.proofs.bounds.sums_within_are_all_within.Goals as goal

pub returns : goal.returns
returns c = within_all
