use Rattle.run_laws.proofs.ExitNumbers.{one_status, zero_is_done}
use Rattle.run_laws.proofs.refusals.exit_numbers_tell_statuses.Goals as goal

pub returns-clause-one : goal.returns-clause-one
returns-clause-one c = one_status

pub returns-clause-zero : goal.returns-clause-zero
returns-clause-zero c = zero_is_done
