use Rattle.equilibrium.proofs.OwnSteps.{one_own, owns}
use Rattle.equilibrium.proofs.laws.each_node_has_one_own_sequence.Goals as goal

pub returns-clause-some : goal.returns-clause-some
returns-clause-some c = owns

pub returns-clause-one : goal.returns-clause-one
returns-clause-one c = one_own
