-- No walk pays more than 2^40.
use Rattle.std.proofs.Common.{◌+◌, ◌<◌, ◌≤◌, ◌^◌, ◌∙◌, unsigned_abs, arith}
use Rattle.corr_game.specs.declared.sides.Side.TheVariants.{One, Two}
use Rattle.corr_game.proofs.WalkSteps.{walk-bound}
use Rattle.corr_num.proofs.PrintedTerms.{narrow_returned, returned}
use Rattle.column_sums.proofs.ProductSizes.{size_passed}
use Rattle.cert_check.proofs.corners.plus_pair.Goals as goal

pub plus_product-requires-clause-number : goal.plus_product-requires-clause-number
plus_product-requires-clause-number c =
    let g = c.args.game.now in
    let paid : unsigned_abs c.walk_pay-paid.result.one ≤ 2 ^ 40 = rw c.walk_pay-paid.ensures.first (walk-bound One g c.requires.rules c.args.pair.now.one c.args.pair.now.two 0 c.requires.rules.has_root) in
    size_passed c.walk_pay-paid.result.one (2 ^ 62) (omega arith) (omega arith)

pub plus_product-requires-2-clause-number : goal.plus_product-requires-2-clause-number
plus_product-requires-2-clause-number c =
    let g = c.args.game.now in
    let paid : unsigned_abs c.walk_pay-paid.result.two ≤ 2 ^ 40 = rw c.walk_pay-paid.ensures.second (walk-bound Two g c.requires.rules c.args.pair.now.one c.args.pair.now.two 0 c.requires.rules.has_root) in
    size_passed c.walk_pay-paid.result.two (2 ^ 62) (omega arith) (omega arith)

pub returns-clause-one_bound : goal.returns-clause-one_bound
returns-clause-one_bound c =
    let paid : unsigned_abs c.walk_pay-paid.result.one ≤ 2 ^ 40 = rw c.walk_pay-paid.ensures.first (walk-bound One c.args.game.now c.requires.rules c.args.pair.now.one c.args.pair.now.two 0 c.requires.rules.has_root) in
    let bound = rw (returned c.args.total.one (omega (arith, c.requires.room_one)), returned c.walk_pay-paid.result.one (omega arith)) at c.plus_product.ensures.bound in
    size_passed c.plus_product.result (unsigned_abs c.args.total.one + 2 ^ 102) (omega arith) (omega (arith, c.requires.room_one))

pub returns-clause-two_bound : goal.returns-clause-two_bound
returns-clause-two_bound c =
    let paid : unsigned_abs c.walk_pay-paid.result.two ≤ 2 ^ 40 = rw c.walk_pay-paid.ensures.second (walk-bound Two c.args.game.now c.requires.rules c.args.pair.now.one c.args.pair.now.two 0 c.requires.rules.has_root) in
    let bound = rw (returned c.args.total.two (omega (arith, c.requires.room_two)), returned c.walk_pay-paid.result.two (omega arith)) at c.plus_product-2.ensures.bound in
    size_passed c.plus_product-2.result (unsigned_abs c.args.total.two + 2 ^ 102) (omega arith) (omega (arith, c.requires.room_two))

pub returns-clause-one : goal.returns-clause-one
returns-clause-one c =
    let paid : unsigned_abs c.walk_pay-paid.result.one ≤ 2 ^ 40 = rw c.walk_pay-paid.ensures.first (walk-bound One c.args.game.now c.requires.rules c.args.pair.now.one c.args.pair.now.two 0 c.requires.rules.has_root) in
    let bound = rw (returned c.args.total.one (omega (arith, c.requires.room_one)), returned c.walk_pay-paid.result.one (omega arith)) at c.plus_product.ensures.bound in
    let size : unsigned_abs c.plus_product.result < 2 ^ 127 = omega (arith, bound, paid, c.requires.room_one) in
    returned c.plus_product.result size
    ∙ rw (
      returned c.args.total.one (omega (arith, c.requires.room_one)),
      narrow_returned c.args.pair.now.weight c.requires.drawn.1,
      returned c.walk_pay-paid.result.one (omega arith),
      c.walk_pay-paid.ensures.first,
    ) at c.plus_product.ensures.value

pub returns-clause-two : goal.returns-clause-two
returns-clause-two c =
    let paid : unsigned_abs c.walk_pay-paid.result.two ≤ 2 ^ 40 = rw c.walk_pay-paid.ensures.second (walk-bound Two c.args.game.now c.requires.rules c.args.pair.now.one c.args.pair.now.two 0 c.requires.rules.has_root) in
    let bound = rw (returned c.args.total.two (omega (arith, c.requires.room_two)), returned c.walk_pay-paid.result.two (omega arith)) at c.plus_product-2.ensures.bound in
    let size : unsigned_abs c.plus_product-2.result < 2 ^ 127 = omega (arith, bound, paid, c.requires.room_two) in
    returned c.plus_product-2.result size
    ∙ rw (
      returned c.args.total.two (omega (arith, c.requires.room_two)),
      narrow_returned c.args.pair.now.weight c.requires.drawn.1,
      returned c.walk_pay-paid.result.two (omega arith),
      c.walk_pay-paid.ensures.second,
    ) at c.plus_product-2.ensures.value
