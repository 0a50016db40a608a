-- The greatest scale is 2^24.
use Rattle.std.proofs.Common.{rules}
use Rattle.corr_num.proofs.PrintedTerms.{word_product_passed}
use Rattle.deviation_gains.proofs.Sizes.{positive_product, scaled_size}
use Rattle.cert_check.proofs.sides.in_file.Goals as goal

pub returns-clause-positive : goal.returns-clause-positive
returns-clause-positive c =
    let scale = c.scale_of.ensures.scale in
    rw (word_product_passed c.product.result c.from.result c.args.den c.scale_of.result c.requires.positive.1 (search rules) c.from.ensures c.product.ensures)
    (positive_product c.args.den c.scale_of.result c.requires.positive.0 scale.0)

pub returns-clause-bound : goal.returns-clause-bound
returns-clause-bound c =
    let scale = c.scale_of.ensures.scale in
    rw (word_product_passed c.product.result c.from.result c.args.den c.scale_of.result c.requires.positive.1 (search rules) c.from.ensures c.product.ensures)
    (scaled_size c.args.den c.scale_of.result c.requires.positive.1 scale.0 scale.1)
