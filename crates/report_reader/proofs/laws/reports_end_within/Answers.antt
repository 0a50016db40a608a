use Rattle.report_reader.proofs.OnePlace.{report_within}
use Rattle.report_reader.proofs.laws.reports_end_within.Goals as goal

pub returns : goal.returns
returns c = report_within
