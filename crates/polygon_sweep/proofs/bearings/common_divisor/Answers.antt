-- The divisor is no larger than the larger of two narrow numbers, so that the cast keeps it, and it isn't 0.
use Rattle.std.proofs.Common.{◌<◌, ◌^◌, unsigned_abs, arith}
use Rattle.std.specs.Int.{w128, IsGcd}
use Rattle.std.proofs.lemmas.Int.{ints, to_z-of_z, to_z_pos}
use Rattle.polygon_sweep.proofs.Divisors.{gcd_below}
use Rattle.polygon_sweep.proofs.bearings.common_divisor.Goals as goal

divisor_is : (c : goal.After-gcd) → IsGcd (unsigned_abs c.args.a) (unsigned_abs c.args.b) c.gcd.result
divisor_is c =
    let a_fits = c.ranges.a in
    let b_fits = c.ranges.b in
    let a_is = simp to_z-of_z at c.unsigned_abs.ensures.value in
    let b_is = simp to_z-of_z at c.unsigned_abs-2.ensures.value in
    rw (a_is, b_is) at c.gcd.ensures

within : (c : goal.After-gcd) → (0 < c.gcd.result) × (c.gcd.result < 2 ^ 62)
within c = gcd_below (unsigned_abs c.args.a) (unsigned_abs c.args.b) c.gcd.result (2 ^ 62) (divisor_is c) (λ e f. c.requires.not_both (omega (arith, ints)) (omega (arith, ints))) c.requires.a_narrow c.requires.b_narrow

small : (c : goal.After-gcd) → c.gcd.result < 2 ^ 127
small c = let w = within c in omega (arith, w.1)

pub overflow_cast-result : goal.overflow_cast-result
overflow_cast-result c = omega (arith, ints, small c)

pub returns : goal.returns
returns c =
    let above = (within c).0 in
    rw (to_z_pos w128 c.gcd.result (small c)) (record { divisor = divisor_is c; positive = omega (arith, ints) })
