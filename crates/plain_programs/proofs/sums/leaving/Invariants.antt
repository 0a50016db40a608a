-- What the pairs so far pay a player who leaves is summed.
use Rattle.std.proofs.Common.{◌^◌, pos, ◌*ℤ◌, unsigned_abs}
use Rattle.equilibrium.specs.Deviation.{deviated_pay}
use Rattle.equilibrium.specs.Distribution.{entry_of}
use Rattle.plain_programs.proofs.WeightedSums.{IsPart}
use Rattle.plain_programs.proofs.sums.leaving.Given as goal

abbrev pub invariant-loop-k : goal.invariant-loop-k
invariant-loop-k l = IsPart (λ pair. pos (unsigned_abs pair.weight) *ℤ deviated_pay l.side l.game l.trigger l.choice (entry_of pair))
    (2 ^ 40) l.list l.k l.all
