use Rattle.solver_laws.proofs.CorrelationRows.{one_number}
use Rattle.solver_laws.proofs.rows.correlation_rows_are_one_number.Goals as goal

pub returns : goal.returns
returns c = one_number
