use Rattle.solver_laws.proofs.CorrelationRows.{stands_there}
use Rattle.solver_laws.proofs.rows.each_correlation_row_stands_there.Goals as goal

pub returns : goal.returns
returns c = stands_there
