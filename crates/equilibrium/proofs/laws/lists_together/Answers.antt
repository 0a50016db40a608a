use Rattle.equilibrium.proofs.Together.{lists_append}
use Rattle.equilibrium.proofs.laws.lists_together.Goals as goal

pub returns : goal.returns
returns c = lists_append
