-- Two numbers below 2^32 have a product that fits with a third.
use Rattle.std.proofs.Common.{ℕ, ◌*◌, ◌+◌, ◌-◌, ◌<◌, ◌≤◌, ◌^◌, arith}
use Rattle.std.proofs.Math.Nat.{mul-le-mul_left}
use Rattle.connected_pairs.proofs.table.cell.Goals as goal

few : (a b width : ℕ) → a < 2 ^ 32 → b < 2 ^ 32 → width < 2 ^ 32 → a * width + b < 2 ^ 64
few a b width low small wide =
    let most : a ≤ 2 ^ 32 - 1 = omega arith in
    omega (arith, mul-le-mul_left width most)

pub overflow_mul-result : goal.overflow_mul-result
overflow_mul-result c =
    omega (arith, few c.args.own.1.0 c.args.set.0 c.args.width (omega arith) (omega arith) c.requires, few c.args.set.0 c.args.own.1.0 c.args.width (omega arith) (omega arith) c.requires)

pub overflow_add-result : goal.overflow_add-result
overflow_add-result c =
    omega (arith, few c.args.own.1.0 c.args.set.0 c.args.width (omega arith) (omega arith) c.requires, few c.args.set.0 c.args.own.1.0 c.args.width (omega arith) (omega arith) c.requires)

pub overflow_mul-result-in-Two : goal.overflow_mul-result-in-Two
overflow_mul-result-in-Two c =
    omega (arith, few c.args.own.1.0 c.args.set.0 c.args.width (omega arith) (omega arith) c.requires, few c.args.set.0 c.args.own.1.0 c.args.width (omega arith) (omega arith) c.requires)

pub overflow_add-result-in-Two : goal.overflow_add-result-in-Two
overflow_add-result-in-Two c =
    omega (arith, few c.args.own.1.0 c.args.set.0 c.args.width (omega arith) (omega arith) c.requires, few c.args.set.0 c.args.own.1.0 c.args.width (omega arith) (omega arith) c.requires)
