-- The weights so far are summed.
use Rattle.std.proofs.Common.{pos, unsigned_abs}
use Rattle.plain_programs.proofs.WeightedSums.{IsPart}
use Rattle.plain_programs.proofs.sums.total.Given as goal

abbrev pub invariant-loop-k : goal.invariant-loop-k
invariant-loop-k l = IsPart (λ pair. pos (unsigned_abs pair.weight)) 1 l.list l.k l.all
