use Rattle.solver_laws.proofs.CorrelationRows.{meet_alone}
use Rattle.solver_laws.proofs.rows.solutions_of_correlation_rows_meet_them.Goals as goal

pub returns : goal.returns
returns c = meet_alone
