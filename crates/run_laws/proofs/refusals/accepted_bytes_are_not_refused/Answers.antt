use Rattle.run_laws.proofs.OneRefusal.{accepted_alone, fitting_alone}
use Rattle.run_laws.proofs.refusals.accepted_bytes_are_not_refused.Goals as goal

pub returns-clause-file : goal.returns-clause-file
returns-clause-file c = accepted_alone

pub returns-clause-first : goal.returns-clause-first
returns-clause-first c = fitting_alone
