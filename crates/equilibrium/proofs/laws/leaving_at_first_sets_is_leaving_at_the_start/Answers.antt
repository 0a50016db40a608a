use Rattle.equilibrium.proofs.StartGains.{reached_start}
use Rattle.equilibrium.proofs.laws.leaving_at_first_sets_is_leaving_at_the_start.Goals as goal

pub returns : goal.returns
returns c = reached_start
