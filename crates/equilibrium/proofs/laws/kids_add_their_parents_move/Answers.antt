use Rattle.equilibrium.proofs.OwnSteps.{kid_of_other, kid_of_own}
use Rattle.equilibrium.proofs.laws.kids_add_their_parents_move.Goals as goal

pub returns-clause-own : goal.returns-clause-own
returns-clause-own c = kid_of_own

pub returns-clause-other : goal.returns-clause-other
returns-clause-other c = kid_of_other
