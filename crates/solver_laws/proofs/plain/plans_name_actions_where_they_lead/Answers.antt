use Rattle.solver_laws.proofs.PlansPlayed.{named_where_led, none_where_not_led}
use Rattle.solver_laws.proofs.plain.plans_name_actions_where_they_lead.Goals as goal

pub returns-clause-led : goal.returns-clause-led
returns-clause-led c = named_where_led

pub returns-clause-apart : goal.returns-clause-apart
returns-clause-apart c = none_where_not_led
