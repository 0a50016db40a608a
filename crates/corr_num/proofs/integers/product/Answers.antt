-- Both factors come back from their bits, and so does the product, whose magnitude is at most 2^126.
use Rattle.std.proofs.Common.{◌^◌, arith}
use Rattle.std.specs.Int.{w128}
use Rattle.std.proofs.lemmas.Int.{to_z-of_z, fits_signed_mul}
use Rattle.corr_num.proofs.integers.product.Goals as goal

pub returns : goal.returns
returns c =
    let a_fits = c.ranges.a in
    let b_fits = c.ranges.b in
    let product_fits = fits_signed_mul w128 c.args.a c.args.b (2 ^ 63) (2 ^ 63) c.requires.left c.requires.right (omega arith) in
    simp to_z-of_z
