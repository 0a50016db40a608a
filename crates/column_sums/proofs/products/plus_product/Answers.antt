-- The product comes back as it was, and so does the sum.
use Rattle.column_sums.proofs.ProductSizes.{more_passed, more_size}
use Rattle.column_sums.proofs.products.plus_product.Goals as goal

pub returns-clause-bound : goal.returns-clause-bound
returns-clause-bound c =
    rw (more_passed c.sum.result c.product.result c.args.total c.args.factor c.args.number c.requires.factor c.requires.number c.requires.before c.product.ensures c.sum.ensures)
    (more_size c.args.total c.args.factor c.args.number c.requires.factor)
