use Rattle.cert_check.proofs.Accepted.{accepted, holds_back, not_both}
use Rattle.cert_check.proofs.laws.true_reports_are_accepted.Goals as goal

pub returns-clause-some : goal.returns-clause-some
returns-clause-some c = accepted

pub returns-clause-one : goal.returns-clause-one
returns-clause-one c = not_both

pub returns-clause-back : goal.returns-clause-back
returns-clause-back c = holds_back
