use Rattle.solver_laws.proofs.ModeratePrograms.{left_opposite, left_right}
use Rattle.solver_laws.proofs.plain.what_is_left_turns_with_the_direction.Goals as goal

pub returns-clause-right : goal.returns-clause-right
returns-clause-right c = left_right

pub returns-clause-opposite : goal.returns-clause-opposite
returns-clause-opposite c = left_opposite
