use Rattle.equilibrium.proofs.NodesBelow.{above_is_below, below_is_above}
use Rattle.equilibrium.proofs.laws.sets_below_have_nodes_below.Goals as goal

pub returns : goal.returns
returns c = λ side g rules above set. (below_is_above side g rules above set, above_is_below side g rules above set)
