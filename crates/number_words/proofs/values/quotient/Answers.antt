use Rattle.std.proofs.Common.{◌<◌, sym, ◌∙◌, arith}
use Rattle.std.specs.Prelude.{nat_lt}
use Rattle.std.proofs.lemmas.Bool.{and_right, le-ltb}
use Rattle.number_words.proofs.Divisors.{lowest_left, positive_left}
use Rattle.number_words.proofs.Quotients.{divided_by_zero, num_over, den_over, made}
use Rattle.number_words.proofs.values.quotient.Goals as goal

pub of-requires : goal.of-requires
of-requires c =
    let divisor = c.common_divisor-divisor.ensures.divisor in
    let some : 0 < c.args.den = omega arith in
    record {
      num_in_range = c.if-num-gt-NUMERATOR_LIMIT.false;
      den_in_range = c.if-den-gt-DENOMINATOR_LIMIT.false;
      den_positive = positive_left c.args.num c.args.den c.common_divisor-divisor.result divisor some;
      lowest = lowest_left c.args.num c.args.den c.common_divisor-divisor.result divisor some;
      zero = λ e. c.has_minus.ensures ∙ and_right c.args.negative (nat_lt 0 _) (le-ltb 0 _ (omega (arith, e)));
    }

pub returns-then-den-eq0 : goal.returns-then-den-eq0
returns-then-den-eq0 c = sym (divided_by_zero c.args.negative c.args.num c.args.den c.if-den-eq0.true)

pub returns-then-num-gt-NUMERATOR_LIMIT : goal.returns-then-num-gt-NUMERATOR_LIMIT
returns-then-num-gt-NUMERATOR_LIMIT c =
    let some : 0 < c.args.den = omega arith in
    sym (num_over c.args.negative c.args.num c.args.den c.common_divisor-divisor.result some c.common_divisor-divisor.ensures.value c.if-num-gt-NUMERATOR_LIMIT.true)

pub returns-then-den-gt-DENOMINATOR_LIMIT : goal.returns-then-den-gt-DENOMINATOR_LIMIT
returns-then-den-gt-DENOMINATOR_LIMIT c =
    let some : 0 < c.args.den = omega arith in
    sym (den_over c.args.negative c.args.num c.args.den c.common_divisor-divisor.result some c.common_divisor-divisor.ensures.value c.if-den-gt-DENOMINATOR_LIMIT.true)

pub returns : goal.returns
returns c =
    let some : 0 < c.args.den = omega arith in
    made c.args.negative c.has_minus.result c.args.num c.args.den c.common_divisor-divisor.result c.of.result some c.common_divisor-divisor.ensures.value c.if-num-gt-NUMERATOR_LIMIT.false c.if-den-gt-DENOMINATOR_LIMIT.false c.of.ensures c.has_minus.ensures
