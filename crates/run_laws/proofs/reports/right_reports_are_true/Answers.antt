use Rattle.run_laws.proofs.RightTrue.{reports_true}
use Rattle.run_laws.proofs.reports.right_reports_are_true.Goals as goal

pub returns : goal.returns
returns c = reports_true
