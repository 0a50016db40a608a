-- Both products are up to 2^124, so that their sum is what is returned.
use Rattle.std.proofs.Common.{◌^◌, ◌≤◌, unsigned_abs, arith}
use Rattle.corr_num.proofs.MagnitudeBounds.{part_product}
use Rattle.corr_num.proofs.PrintedTerms.{part_product_passed, part_products_sum_passed}
use Rattle.plain_programs.proofs.certificates.weighed.Goals as goal

pub sum-requires-clause-left : goal.sum-requires-clause-left
sum-requires-clause-left c =
    let a : unsigned_abs c.args.dir.now.a ≤ 2 ^ 62 = omega (arith, c.args.dir.now.a_narrow) in
    let one : unsigned_abs c.args.one ≤ 2 ^ 62 = omega (arith, c.requires.one) in
    rw (part_product_passed c.product.result c.args.dir.now.a c.args.one a one c.product.ensures) (omega (arith, part_product c.args.dir.now.a c.args.one a one))

pub sum-requires-clause-right : goal.sum-requires-clause-right
sum-requires-clause-right c =
    let b : unsigned_abs c.args.dir.now.b ≤ 2 ^ 62 = omega (arith, c.args.dir.now.b_narrow) in
    let two : unsigned_abs c.args.two ≤ 2 ^ 62 = omega (arith, c.requires.two) in
    rw (part_product_passed c.product-2.result c.args.dir.now.b c.args.two b two c.product-2.ensures) (omega (arith, part_product c.args.dir.now.b c.args.two b two))

pub returns : goal.returns
returns c =
    let a : unsigned_abs c.args.dir.now.a ≤ 2 ^ 62 = omega (arith, c.args.dir.now.a_narrow) in
    let b : unsigned_abs c.args.dir.now.b ≤ 2 ^ 62 = omega (arith, c.args.dir.now.b_narrow) in
    let one : unsigned_abs c.args.one ≤ 2 ^ 62 = omega (arith, c.requires.one) in
    let two : unsigned_abs c.args.two ≤ 2 ^ 62 = omega (arith, c.requires.two) in
    part_products_sum_passed c.sum.result c.product.result c.product-2.result c.args.dir.now.a c.args.one c.args.dir.now.b c.args.two a one b two c.product.ensures c.product-2.ensures c.sum.ensures
