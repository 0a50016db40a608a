use Rattle.solver_laws.proofs.Steps.{program_steps, row_steps}
use Rattle.solver_laws.proofs.bounds.rows_of_words_have_small_steps.Goals as goal

pub returns-clause-row : goal.returns-clause-row
returns-clause-row c = row_steps

pub returns-clause-program : goal.returns-clause-program
returns-clause-program c = program_steps
