-- What the pairs so far pay is summed.
use Rattle.std.proofs.Common.{◌^◌, pos, ◌*ℤ◌, unsigned_abs}
use Rattle.equilibrium.specs.Distribution.{entry_of, pay}
use Rattle.plain_programs.proofs.WeightedSums.{IsPart}
use Rattle.plain_programs.proofs.sums.following.Given as goal

abbrev pub invariant-loop-k : goal.invariant-loop-k
invariant-loop-k l = IsPart (λ pair. pos (unsigned_abs pair.weight) *ℤ pay l.side l.game (entry_of pair)) (2 ^ 40) l.list l.k l.all
