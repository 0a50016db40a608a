use Rattle.text_laws.proofs.Drawing.{draws_join, states_join}
use Rattle.text_laws.proofs.draws.states_follow_each_other.Goals as goal

pub returns-clause-states : goal.returns-clause-states
returns-clause-states c = states_join

pub returns-clause-draws : goal.returns-clause-draws
returns-clause-draws c = draws_join
