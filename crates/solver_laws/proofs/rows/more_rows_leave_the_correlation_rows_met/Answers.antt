use Rattle.solver_laws.proofs.CorrelationRows.{meet_more}
use Rattle.solver_laws.proofs.rows.more_rows_leave_the_correlation_rows_met.Goals as goal

pub returns : goal.returns
returns c = meet_more
