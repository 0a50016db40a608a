use Rattle.solver_laws.proofs.GreatestPayoffs.{one_turn, two_turns}
use Rattle.solver_laws.proofs.optima.left_turns_are_directions.Goals as goal

pub returns-clause-one : goal.returns-clause-one
returns-clause-one c = one_turn

pub returns-clause-two : goal.returns-clause-two
returns-clause-two c = two_turns
