use Rattle.solver_laws.proofs.PlansPlayed.{leaves_one, leaves_two}
use Rattle.solver_laws.proofs.plain.players_get_the_leaves_that_both_plans_play.Goals as goal

pub returns-clause-one : goal.returns-clause-one
returns-clause-one c = leaves_one

pub returns-clause-two : goal.returns-clause-two
returns-clause-two c = leaves_two
