use Rattle.solver_laws.proofs.SizesHeld.{start_columns, start_rights, start_rows}
use Rattle.solver_laws.proofs.sizes.the_start_has_the_size_of_its_program.Goals as goal

pub returns-clause-rows : goal.returns-clause-rows
returns-clause-rows c = start_rows

pub returns-clause-columns : goal.returns-clause-columns
returns-clause-columns c = start_columns

pub returns-clause-rights : goal.returns-clause-rights
returns-clause-rights c = start_rights
