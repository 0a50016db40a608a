use Rattle.std.proofs.Common.{◌<◌, ◌≤◌, arith}
use Rattle.residues.proofs.Factors.{high_bound, factor_bound, next_factors, next_factor_bound}
use Rattle.residues.proofs.euclid.best_of.Goals as goal
use Rattle.residues.proofs.euclid.best_of.Goals.{then-quotient-greatest, else-quotient-greatest}

pub loop-low-preserved : goal.loop-low-preserved
loop-low-preserved c =
    let some : 0 < c.loop-low.low = omega arith in
    let factors = c.loop-low.invariant.factors in
    let high : c.loop-low.high ≤ c.args.modulus = high_bound _ _ _ _ _ factors in
    let factor : c.loop-low.low_factor ≤ c.args.modulus = factor_bound _ _ _ _ _ factors in
    let branch = c.if-quotient-greatest.branch in
    record {
      factors = next_factors _ _ _ _ _ some factors;
      num_bound = elim branch [ then-quotient-greatest w ↦ omega arith | else-quotient-greatest w ↦ omega arith ];
      den_positive = elim branch [ then-quotient-greatest w ↦ omega arith | else-quotient-greatest w ↦ omega arith ];
      den_bound = elim branch [ then-quotient-greatest w ↦ omega arith | else-quotient-greatest w ↦ omega arith ];
    }

pub overflow_mul-factor : goal.overflow_mul-factor
overflow_mul-factor c =
    let some : 0 < c.loop-low.low = omega arith in
    omega (arith, next_factor_bound _ _ _ _ _ some c.loop-low.invariant.factors)

pub overflow_add-factor : goal.overflow_add-factor
overflow_add-factor c =
    let some : 0 < c.loop-low.low = omega arith in
    omega (arith, next_factor_bound _ _ _ _ _ some c.loop-low.invariant.factors)
