-- The corner's numbers are the products of its payoffs' parts.
use Rattle.std.proofs.Common.{◌≡◌, ◌^◌, slice_get, Some, refl, arith}
use Rattle.std.proofs.lemmas.Option.{slice_get_read}
use Rattle.plain_programs.proofs.Places.{parts_passed, place_is, still_low}
use Rattle.plain_programs.proofs.insides.corner.Goals as goal

pub returns-clause-place : goal.returns-clause-place
returns-clause-place c =
    let p = c.index-points-k.result in
    let at : slice_get c.args.points.now c.args.k ≡ Some p = slice_get_read c.args.points.now _ c.args.k p refl c.requires.in_range c.index-points-k.is in
    let small = c.requires.small c.args.k p at in
    place_is c.args.points.now c.args.k p _ _ _ at
    (parts_passed c.small_product.result c.num.result c.den.result p.one.num p.two.den c.num.ensures.value c.den.ensures.value small.one_num small.two_den c.small_product.ensures.value)
    (parts_passed c.small_product-2.result c.num-2.result c.den-2.result p.two.num p.one.den c.num-2.ensures.value c.den-2.ensures.value small.two_num small.one_den c.small_product-2.ensures.value)
    (parts_passed c.small_product-3.result c.den-3.result c.den-4.result p.one.den p.two.den c.den-3.ensures.value c.den-4.ensures.value small.one_den small.two_den c.small_product-3.ensures.value)

pub returns-clause-small : goal.returns-clause-small
returns-clause-small c = record {
  x = still_low c.small_product.result (2 ^ 20) (omega arith) c.small_product.ensures.bound;
  y = still_low c.small_product-2.result (2 ^ 20) (omega arith) c.small_product-2.ensures.bound;
  den = still_low c.small_product-3.result (2 ^ 20) (omega arith) c.small_product-3.ensures.bound;
}
