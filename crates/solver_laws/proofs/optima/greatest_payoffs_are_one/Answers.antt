use Rattle.solver_laws.proofs.GreatestPayoffs.{along_alike, left_alike}
use Rattle.solver_laws.proofs.optima.greatest_payoffs_are_one.Goals as goal

pub returns-clause-along : goal.returns-clause-along
returns-clause-along c = along_alike

pub returns-clause-left : goal.returns-clause-left
returns-clause-left c = left_alike
