use Rattle.std.proofs.Common.{◌<◌, ◌≤◌, ◌/◌, ◌-◌, arith}
use Rattle.residues.proofs.Inverses.{next_is_times}
use Rattle.residues.proofs.remainders.inverse_modulo.Goals as goal

pub loop-low-preserved : goal.loop-low-preserved
loop-low-preserved c =
    let some : 0 < 2305843009213693952 - c.args.short = omega arith in
    let small : c.loop-low.high / c.loop-low.low ≤ 2305843009213693952 - c.args.short = omega arith in
    record {
      falls = omega arith;
      bound = omega arith;
      high_is = c.loop-low.invariant.low_is;
      low_is = rw c.minus_product_modulo-factor.ensures
          (next_is_times _ _ _ _ _ _ some small c.loop-low.invariant.high_is c.loop-low.invariant.low_is);
    }
