use Rattle.solver_laws.proofs.FirstPhase.{driven_exactly, none_found}
use Rattle.solver_laws.proofs.first_phase.driven_where_none_drives_out.Goals as goal

pub returns-clause-none : goal.returns-clause-none
returns-clause-none c = driven_exactly

pub returns-clause-found : goal.returns-clause-found
returns-clause-found c = none_found
