use Rattle.equilibrium.proofs.NamedWhereLed.{named_there, none_there}
use Rattle.equilibrium.proofs.laws.reduced_plans_name_one_action_where_they_play.Goals as goal

pub returns-clause-named : goal.returns-clause-named
returns-clause-named c = named_there

pub returns-clause-none : goal.returns-clause-none
returns-clause-none c = none_there
