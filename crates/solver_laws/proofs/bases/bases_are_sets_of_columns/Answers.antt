use Rattle.solver_laws.proofs.OneStep.{same_columns}
use Rattle.solver_laws.proofs.bases.bases_are_sets_of_columns.Goals as goal

pub returns : goal.returns
returns c = same_columns
