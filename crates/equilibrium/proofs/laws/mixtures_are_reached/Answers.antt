use Rattle.equilibrium.proofs.Mixing.{mixtures_reached}
use Rattle.equilibrium.proofs.laws.mixtures_are_reached.Goals as goal

pub returns : goal.returns
returns c = mixtures_reached
