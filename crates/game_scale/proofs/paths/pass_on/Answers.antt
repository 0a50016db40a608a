-- The kids of the node are those of its shape.
use Rattle.game_scale.proofs.paths.pass_on.Goals as goal

pub returns-in-Chance-clause-each : goal.returns-in-Chance-clause-each
returns-in-Chance-clause-each c = rw c.in-Chance.is c.pass_by_chance.ensures.each

pub returns-in-Choice-clause-each : goal.returns-in-Choice-clause-each
returns-in-Choice-clause-each c = rw c.in-Choice.is c.pass_to_each.ensures.each
