-- Both products are below 2^124, so that their sum is what is returned.
use Rattle.std.proofs.Common.{◌≡◌, ◌+ℤ◌, ◌*ℤ◌, ◌<◌, ◌^◌, ◌∙◌, unsigned_abs, arith}
use Rattle.corr_num.proofs.MagnitudeBounds.{narrow_product, sum_magnitude}
use Rattle.corr_num.proofs.PrintedTerms.{product_passed, returned}
use Rattle.cert_check.proofs.sides.weighed.Goals as goal

pub sum-requires-clause-left : goal.sum-requires-clause-left
sum-requires-clause-left c =
    let a = c.args.dir.now.a_narrow in
    rw (product_passed c.product.result c.args.dir.now.a c.args.one a c.requires.one c.product.ensures) (omega (arith, narrow_product c.args.dir.now.a c.args.one a c.requires.one))

pub sum-requires-clause-right : goal.sum-requires-clause-right
sum-requires-clause-right c =
    let b = c.args.dir.now.b_narrow in
    rw (product_passed c.product-2.result c.args.dir.now.b c.args.two b c.requires.two c.product-2.ensures) (omega (arith, narrow_product c.args.dir.now.b c.args.two b c.requires.two))

sums : (c : goal.After-sum) → c.sum.result ≡ c.args.dir.now.a *ℤ c.args.one +ℤ c.args.dir.now.b *ℤ c.args.two
sums c =
    let a = c.args.dir.now.a_narrow in
    let b = c.args.dir.now.b_narrow in
    rw (product_passed c.product.result c.args.dir.now.a c.args.one a c.requires.one c.product.ensures, product_passed c.product-2.result c.args.dir.now.b c.args.two b c.requires.two c.product-2.ensures) at c.sum.ensures

small : (c : goal.After-sum) → unsigned_abs c.sum.result < 2 ^ 127
small c =
    let a = c.args.dir.now.a_narrow in
    let b = c.args.dir.now.b_narrow in
    rw (sums c) (omega (arith, sum_magnitude (c.args.dir.now.a *ℤ c.args.one) (c.args.dir.now.b *ℤ c.args.two), narrow_product c.args.dir.now.a c.args.one a c.requires.one, narrow_product c.args.dir.now.b c.args.two b c.requires.two))

pub returns-clause-value : goal.returns-clause-value
returns-clause-value c = returned c.sum.result (small c) ∙ sums c

pub returns-clause-bound : goal.returns-clause-bound
returns-clause-bound c = rw (returned c.sum.result (small c)) (small c)
