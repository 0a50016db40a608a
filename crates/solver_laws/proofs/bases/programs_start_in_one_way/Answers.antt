use Rattle.solver_laws.proofs.StartLists.{one_basis, one_row_list, one_rows}
use Rattle.solver_laws.proofs.bases.programs_start_in_one_way.Goals as goal

pub returns-clause-row : goal.returns-clause-row
returns-clause-row c = one_row_list

pub returns-clause-rows : goal.returns-clause-rows
returns-clause-rows c = one_rows

pub returns-clause-basis : goal.returns-clause-basis
returns-clause-basis c = one_basis
