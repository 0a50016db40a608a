use Rattle.solver_laws.proofs.PlansPlayed.{follows, leaves}
use Rattle.solver_laws.proofs.plain.players_get_what_their_plans_get.Goals as goal

pub returns-clause-follows : goal.returns-clause-follows
returns-clause-follows c = follows

pub returns-clause-leaves : goal.returns-clause-leaves
returns-clause-leaves c = leaves
