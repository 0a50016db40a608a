-- With a digit still to come at most eight have been read, so the value is below 10^8.
use Rattle.std.proofs.Common.{ℕ, ◌<◌, ◌≤◌, ◌^◌, arith}
use Rattle.std.proofs.Math.Nat.{pow-le-pow_right}
use Rattle.one_node_file.proofs.amounts.short_number.Goals as goal

below_eight_digits : (value read : ℕ) → value < 10 ^ read → read ≤ 8 → value < 100000000
below_eight_digits value read below few =
    let ten : 0 < 10 = omega arith in
    let grows : 10 ^ read ≤ 10 ^ 8 = pow-le-pow_right ten few in
    omega arith

pub overflow_mul-value : goal.overflow_mul-value
overflow_mul-value c =
    let small = below_eight_digits c.loop-byte.value c.loop-byte.byte-index c.loop-byte.invariant.bound (omega arith) in
    omega arith

pub overflow_add-value : goal.overflow_add-value
overflow_add-value c =
    let small = below_eight_digits c.loop-byte.value c.loop-byte.byte-index c.loop-byte.invariant.bound (omega arith) in
    omega (arith, c.from.ensures)
