use Rattle.solver_laws.proofs.ModeratePrograms.{blank_moderate}
use Rattle.solver_laws.proofs.plain.zeros_are_moderate_up_to_256_rows.Goals as goal

pub returns : goal.returns
returns c = blank_moderate
