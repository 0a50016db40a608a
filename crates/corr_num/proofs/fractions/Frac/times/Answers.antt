-- Both products come back from their bits, since no part is above 2^62.
use Rattle.std.proofs.Common.{arith}
use Rattle.exact_algebra.proofs.Order.{product_positive}
use Rattle.corr_num.proofs.MagnitudeBounds.{part_product}
use Rattle.corr_num.proofs.PrintedTerms.{part_product_passed}
use Rattle.corr_num.proofs.fractions.Frac.times.Goals as goal

pub of-requires-clause-positive : goal.of-requires-clause-positive
of-requires-clause-positive c =
    let self_den = rw (← c.self.view_is) at c.requires.self_den in
    let other_den = rw (← c.other.view_is) at c.requires.other_den in
    rw (part_product_passed c.product-2.result c.self.inside.den c.other.inside.den self_den other_den c.product-2.ensures) (product_positive c.self.invariant.0.positive c.other.invariant.0.positive)

pub of-requires-clause-num_bound : goal.of-requires-clause-num_bound
of-requires-clause-num_bound c =
    let self_num = rw (← c.self.view_is) at c.requires.self_num in
    let other_num = rw (← c.other.view_is) at c.requires.other_num in
    rw (part_product_passed c.product.result c.self.inside.num c.other.inside.num self_num other_num c.product.ensures) (omega (arith, part_product c.self.inside.num c.other.inside.num self_num other_num))

pub of-requires-clause-den_bound : goal.of-requires-clause-den_bound
of-requires-clause-den_bound c =
    let self_den = rw (← c.self.view_is) at c.requires.self_den in
    let other_den = rw (← c.other.view_is) at c.requires.other_den in
    rw (part_product_passed c.product-2.result c.self.inside.den c.other.inside.den self_den other_den c.product-2.ensures) (omega (arith, part_product c.self.inside.den c.other.inside.den self_den other_den))

pub returns : goal.returns
returns c =
    let self_num = rw (← c.self.view_is) at c.requires.self_num in
    let other_num = rw (← c.other.view_is) at c.requires.other_num in
    let self_den = rw (← c.self.view_is) at c.requires.self_den in
    let other_den = rw (← c.other.view_is) at c.requires.other_den in
    let num_is = part_product_passed c.product.result c.self.inside.num c.other.inside.num self_num other_num c.product.ensures in
    let den_is = part_product_passed c.product-2.result c.self.inside.den c.other.inside.den self_den other_den c.product-2.ensures in
    rw (← c.self.view_is, ← c.other.view_is) (rw (num_is, den_is) at c.of.ensures)
