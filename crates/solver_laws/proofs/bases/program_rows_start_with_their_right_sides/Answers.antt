use Rattle.solver_laws.proofs.StartLists.{own_is_one, right_is_last}
use Rattle.solver_laws.proofs.bases.program_rows_start_with_their_right_sides.Goals as goal

pub returns-clause-own : goal.returns-clause-own
returns-clause-own c = own_is_one

pub returns-clause-right : goal.returns-clause-right
returns-clause-right c = right_is_last
