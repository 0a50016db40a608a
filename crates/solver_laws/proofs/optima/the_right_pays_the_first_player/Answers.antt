use Rattle.solver_laws.proofs.GreatestPayoffs.{right_along, right_left}
use Rattle.solver_laws.proofs.optima.the_right_pays_the_first_player.Goals as goal

pub returns-clause-along : goal.returns-clause-along
returns-clause-along c = right_along

pub returns-clause-left : goal.returns-clause-left
returns-clause-left c = right_left
