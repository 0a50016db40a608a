use Rattle.solver_laws.proofs.DrawnPairs.{block_totals, corner_total}
use Rattle.solver_laws.proofs.pairs.spread_corners_have_the_total_of_their_weights.Goals as goal

pub returns-clause-corner : goal.returns-clause-corner
returns-clause-corner c = corner_total

pub returns-clause-block : goal.returns-clause-block
returns-clause-block c = block_totals
