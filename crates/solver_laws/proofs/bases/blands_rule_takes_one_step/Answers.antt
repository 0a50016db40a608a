use Rattle.solver_laws.proofs.OneStep.{one_column, one_row}
use Rattle.solver_laws.proofs.bases.blands_rule_takes_one_step.Goals as goal

pub returns-clause-column : goal.returns-clause-column
returns-clause-column c = one_column

pub returns-clause-row : goal.returns-clause-row
returns-clause-row c = one_row
