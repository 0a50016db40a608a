use Rattle.std.proofs.Common.{◌<◌, ◌-◌, ◌≤◌}
use Rattle.residues.proofs.Inverses.{IsTimes}
use Rattle.residues.proofs.remainders.inverse_modulo.Given as goal

abbrev pub invariant-loop-low : goal.invariant-loop-low
invariant-loop-low l = record {
  falls : l.low < l.high;
  bound : l.high ≤ 2305843009213693952 - l.short;
  high_is : IsTimes (2305843009213693952 - l.short) l.value l.high l.high_factor;
  low_is : IsTimes (2305843009213693952 - l.short) l.value l.low l.low_factor;
}

abbrev pub decreases-loop-low : goal.decreases-loop-low
decreases-loop-low l = l.low
