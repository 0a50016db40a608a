use Rattle.solver_laws.proofs.DrawnPairs.{sums_spread}
use Rattle.solver_laws.proofs.pairs.reduced_plans_spread_their_corner.Goals as goal

pub returns : goal.returns
returns c = sums_spread
