use Rattle.std.proofs.Common.{◌^◌, arith}
use Rattle.plain_programs.proofs.Places.{product_low}
use Rattle.plain_programs.proofs.insides.small_product.Goals as goal

pub returns-clause-bound : goal.returns-clause-bound
returns-clause-bound c =
    product_low c.product.result c.args.a c.args.b (2 ^ 10) (2 ^ 10) (omega arith) (omega arith) (omega arith) c.requires.small_a c.requires.small_b c.product.ensures
