use Rattle.equilibrium.proofs.MoreSlack.{more_slack}
use Rattle.equilibrium.proofs.laws.greater_slacks_allow_more.Goals as goal

pub returns : goal.returns
returns c = more_slack
