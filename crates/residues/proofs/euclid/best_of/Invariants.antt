use Rattle.std.proofs.Common.{◌<◌}
use Rattle.residues.proofs.Factors.{AreFactors}
use Rattle.residues.proofs.euclid.best_of.Given as goal

abbrev pub invariant-loop-low : goal.invariant-loop-low
invariant-loop-low l = record {
  factors : AreFactors l.fn.modulus l.high l.low l.high_factor l.low_factor;
  num_bound : l.num < 4611686018427387904;
  den_positive : 0 < l.den;
  den_bound : l.den < 4611686018427387904;
}

abbrev pub decreases-loop-low : goal.decreases-loop-low
decreases-loop-low l = l.low
