use Rattle.equilibrium.proofs.Nesting.{told_reached}
use Rattle.equilibrium.proofs.laws.told_sets_are_reached.Goals as goal

pub returns : goal.returns
returns c = told_reached
