-- The amount is the numerator times what is left of the scale.
use Rattle.std.proofs.Common.{rules, FitsSigned, arith}
use Rattle.std.specs.Int.{w64, w128}
use Rattle.std.proofs.lemmas.Int.{ints, to_z-of_z}
use Rattle.game_scale.proofs.Multiples.{large, scaled_amount}
use Rattle.game_scale.proofs.amounts.amount.Goals as goal

pub returns-then-unsigned_abs-gt-LARGEST_AMOUNT-clause-none : goal.returns-then-unsigned_abs-gt-LARGEST_AMOUNT-clause-none
returns-then-unsigned_abs-gt-LARGEST_AMOUNT-clause-none c = λ e.
    let num_fits : FitsSigned w128 c.num.result = search rules in
    let size = simp to_z-of_z at c.unsigned_abs.ensures.value in
    let number = rw c.num.ensures.value at size in
    (c.requires.whole.0, c.requires.whole.1, omega (arith, number, large c.args.weighted.now c.args.scale c.requires.whole.0 c.part_of-part.ensures.lowest c.requires.positive c.requires.whole.1))

pub returns-then-unsigned_abs-gt-LARGEST_AMOUNT-2-clause-none : goal.returns-then-unsigned_abs-gt-LARGEST_AMOUNT-2-clause-none
returns-then-unsigned_abs-gt-LARGEST_AMOUNT-2-clause-none c = λ e.
    let num_fits : FitsSigned w128 c.num-2.result = search rules in
    let part_fits : FitsSigned w128 c.part_of-part.result = search rules in
    let amount_fits : FitsSigned w128 c.product-amount.result = search rules in
    let size = simp to_z-of_z at c.unsigned_abs-2.ensures.value in
    let product = simp to_z-of_z at c.product-amount.ensures in
    let amount = rw c.num-2.ensures.value at product in
    let scale_fits = c.ranges.scale in
    let left = simp to_z-of_z at c.part_of-part.ensures.exact in
    (c.product-amount.result, scaled_amount c.args.weighted.now c.args.scale c.part_of-part.result c.product-amount.result left amount, omega (arith, size))

pub returns-clause-some : goal.returns-clause-some
returns-clause-some c =
    let num_fits : FitsSigned w128 c.num-2.result = search rules in
    let part_fits : FitsSigned w128 c.part_of-part.result = search rules in
    let amount_fits : FitsSigned w128 c.product-amount.result = search rules in
    let size = simp to_z-of_z at c.unsigned_abs-2.ensures.value in
    let product = simp to_z-of_z at c.product-amount.ensures in
    let amount = rw c.num-2.ensures.value at product in
    let scale_fits = c.ranges.scale in
    let left = simp to_z-of_z at c.part_of-part.ensures.exact in
    let short : FitsSigned w64 c.product-amount.result = omega (arith, ints, size) in
    simp to_z-of_z (scaled_amount c.args.weighted.now c.args.scale c.part_of-part.result c.product-amount.result left amount, omega (arith, size))
