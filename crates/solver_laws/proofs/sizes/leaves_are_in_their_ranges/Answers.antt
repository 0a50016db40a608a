use Rattle.solver_laws.proofs.SizesHeld.{leaf_in_range, opposite_in_range}
use Rattle.solver_laws.proofs.sizes.leaves_are_in_their_ranges.Goals as goal

pub returns-clause-leaf : goal.returns-clause-leaf
returns-clause-leaf c = leaf_in_range

pub returns-clause-opposite : goal.returns-clause-opposite
returns-clause-opposite c = opposite_in_range
