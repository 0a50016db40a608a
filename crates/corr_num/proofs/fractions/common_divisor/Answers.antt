-- A divisor of the denominator is not above it, so that the cast keeps it, and is not 0.
use Rattle.std.proofs.Common.{◌<◌, ◌^◌, unsigned_abs, arith}
use Rattle.std.specs.Int.{w128, IsGcd}
use Rattle.std.proofs.Math.Nat.{le_of_dvd, pos_of_dvd_of_pos}
use Rattle.std.proofs.lemmas.Int.{ints, to_z-of_z, to_z_pos}
use Rattle.corr_num.proofs.fractions.common_divisor.Goals as goal

divisor_is : (c : goal.After-gcd) → IsGcd (unsigned_abs c.args.num) (unsigned_abs c.args.den) c.gcd.result
divisor_is c =
    let num_fits = c.ranges.num in
    let den_fits = c.ranges.den in
    let num_is = simp to_z-of_z at c.unsigned_abs.ensures.value in
    let den_is = simp to_z-of_z at c.unsigned_abs-2.ensures.value in
    rw (num_is, den_is) at c.gcd.ensures

den_above : (c : goal.After-gcd) → 0 < unsigned_abs c.args.den
den_above c = omega (arith, ints)

divisor_small : (c : goal.After-gcd) → c.gcd.result < 2 ^ 127
divisor_small c = omega (arith, le_of_dvd (den_above c) (divisor_is c).1)

pub overflow_cast-result : goal.overflow_cast-result
overflow_cast-result c = omega (arith, ints, divisor_small c)

pub returns : goal.returns
returns c =
    let above = pos_of_dvd_of_pos (divisor_is c).1 (den_above c) in
    rw (to_z_pos w128 c.gcd.result (divisor_small c)) (record { divisor = divisor_is c; positive = omega (arith, ints) })
