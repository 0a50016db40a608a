use Rattle.solver_laws.proofs.CorrelationRows.{total_one, total_zeros}
use Rattle.solver_laws.proofs.rows.the_total_row_is_of_the_first_column.Goals as goal

pub returns-clause-one : goal.returns-clause-one
returns-clause-one c = total_one

pub returns-clause-zeros : goal.returns-clause-zeros
returns-clause-zeros c = total_zeros
