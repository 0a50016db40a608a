-- The product of two positive numbers within 2^62 is positive and below 2^126.
use Rattle.std.proofs.Common.{◌≡◌, ◌*ℤ◌, to_z, of_z, arith}
use Rattle.std.specs.Int.{w128}
use Rattle.std.proofs.lemmas.Int.{ints, to_z-of_z}
use Rattle.exact_algebra.proofs.Order.{product_positive}
use Rattle.corr_num.proofs.MagnitudeBounds.{part_product}
use Rattle.corr_num.proofs.PrintedTerms.{part_product_passed}
use Rattle.notion_solve.proofs.corners.scaled.Goals as goal

product_is : (c : goal.After-product) → to_z w128 (of_z w128 c.product.result) ≡ c.args.den *ℤ c.args.scale
product_is c =
    let fits = c.ranges.scale in
    let word = simp to_z-of_z at c.from.ensures in
    let made = rw word at c.product.ensures in
    part_product_passed c.product.result c.args.den c.args.scale (omega (arith, c.requires.narrow)) (omega (arith, ints, c.requires.scale.0, c.requires.scale.1)) made

pub returns-clause-positive : goal.returns-clause-positive
returns-clause-positive c =
    rw (product_is c) (product_positive c.requires.positive (omega (arith, ints, c.requires.scale.0)))

pub returns-clause-bound : goal.returns-clause-bound
returns-clause-bound c =
    rw (product_is c) (omega (arith, part_product c.args.den c.args.scale (omega (arith, c.requires.narrow)) (omega (arith, ints, c.requires.scale.0, c.requires.scale.1))))
