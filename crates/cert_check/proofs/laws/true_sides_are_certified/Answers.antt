use Rattle.std.proofs.Common.{arith}
use Rattle.cert_check.specs.SideRules.{SideRule, width, sign}
use Rattle.cert_check.proofs.FirstBroken.{second_holds}
use Rattle.cert_check.proofs.laws.true_sides_are_certified.Goals as goal

pub returns : goal.returns
returns c = λ g lp corners side positive holds. record {
  multipliers = record {
    positive = positive;
    first_each = holds.0.0;
    second_each = holds.0.1;
    not_below = λ col within. second_holds (SideRule g lp corners side) width sign 0 lp.cols col holds.1.1 (omega arith) (omega arith);
  };
  corner = holds.1.0.corner;
  at = holds.1.0.at;
  point = holds.1.0.point;
}
