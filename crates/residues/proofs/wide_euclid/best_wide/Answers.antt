use Rattle.std.proofs.Common.{◌<◌, arith}
use Rattle.residues.proofs.Factors.{next_factors, next_factor_bound}
use Rattle.residues.proofs.wide_euclid.best_wide.Goals as goal
use Rattle.residues.proofs.wide_euclid.best_wide.Goals.{then-quotient-greatest+then-low-lt-BOUND, else-quotient-greatest}

pub loop-low-preserved : goal.loop-low-preserved
loop-low-preserved c =
    let some : 0 < c.loop-low.low = omega arith in
    let above : 0 < c.loop-low.low_factor = c.loop-low.invariant.factors.some in
    let branch = c.if-quotient-greatest.branch in
    record {
      factors = next_factors _ _ _ _ _ some c.loop-low.invariant.factors;
      num_bound = elim branch [ then-quotient-greatest+then-low-lt-BOUND w ↦ omega arith | else-quotient-greatest w ↦ omega arith ];
      den_positive = elim branch [ then-quotient-greatest+then-low-lt-BOUND w ↦ omega arith | else-quotient-greatest w ↦ omega arith ];
      den_bound = elim branch [ then-quotient-greatest+then-low-lt-BOUND w ↦ omega arith | else-quotient-greatest w ↦ omega arith ];
    }

pub overflow_mul-factor : goal.overflow_mul-factor
overflow_mul-factor c =
    let some : 0 < c.loop-low.low = omega arith in
    omega (arith, next_factor_bound _ _ _ _ _ some c.loop-low.invariant.factors)

pub overflow_add-factor : goal.overflow_add-factor
overflow_add-factor c =
    let some : 0 < c.loop-low.low = omega arith in
    omega (arith, next_factor_bound _ _ _ _ _ some c.loop-low.invariant.factors)
