-- The sequences at a set go, and that is one or more.
use Rattle.std.proofs.Common.{length}
use Rattle.deviation_gains.proofs.deviations.+best_from.Given as goal

abbrev pub decreases-best_from : goal.decreases-best_from
decreases-best_from l = length l.left.now.items
