use Rattle.solver_laws.proofs.ModeratePrograms.{narrow_columns}
use Rattle.solver_laws.proofs.plain.moderate_multipliers_have_narrow_columns.Goals as goal

pub returns : goal.returns
returns c = narrow_columns
