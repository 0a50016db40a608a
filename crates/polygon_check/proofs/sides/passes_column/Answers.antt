-- What is left of the column for each player is what is weighed.
use Rattle.std.proofs.Common.{rules, FitsSigned, arith}
use Rattle.std.specs.Int.{w128}
use Rattle.std.proofs.lemmas.Int.{to_z-of_z}
use Rattle.corr_num.proofs.PrintedTerms.{narrow_returned, returned}
use Rattle.polygon_check.proofs.sides.passes_column.Goals as goal

pub returns : goal.returns
returns c =
    let den = narrow_returned c.args.side.now.den c.requires.in_range.scale.den in
    let one = rw (returned c.args.products.0 (omega (arith, c.requires.first_bound)), den, c.requires.first) at c.left_over-one.ensures in
    let two = rw (returned c.args.products.1 (omega (arith, c.requires.second_bound)), den, c.requires.second) at c.left_over-two.ensures in
    let one_fits : FitsSigned w128 c.left_over-one.result = search rules in
    let two_fits : FitsSigned w128 c.left_over-two.result = search rules in
    rw (to_z-of_z w128 c.left_over-one.result one_fits, to_z-of_z w128 c.left_over-two.result two_fits, one, two) at c.is_weighed.ensures
