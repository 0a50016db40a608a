-- The two products are those of the definition.
use Rattle.std.proofs.Common.{◌^◌, ◌≤◌, ℤ, ◌*ℤ◌, unsigned_abs, refl, subst, arith}
use Rattle.plane_hull.specs.Inside.{reach}
use Rattle.plain_programs.specs.SmallPolygon.{place_at}
use Rattle.plain_programs.proofs.Places.{order_told, read_passed}
use Rattle.plain_programs.proofs.insides.lies_no_further.Goals as goal

pub returns : goal.returns
returns c =
    let one = c.args.scales.now.0 in
    let two = c.args.scales.now.1 in
    let p = reach one two c.args.dir.now (place_at c.args.p.now) in
    let q = reach one two c.args.dir.now (place_at c.args.q.now) in
    let p_low : unsigned_abs p ≤ 2 ^ 61 = subst (λ (z : ℤ). unsigned_abs z ≤ 2 ^ 61) c.reach_of.ensures.value c.reach_of.ensures.bound in
    let q_low : unsigned_abs q ≤ 2 ^ 61 = subst (λ (z : ℤ). unsigned_abs z ≤ 2 ^ 61) c.reach_of-2.ensures.value c.reach_of-2.ensures.bound in
    order_told c.product.result c.product-2.result (p *ℤ c.args.q.now.den) (q *ℤ c.args.p.now.den)
    (read_passed c.product.result c.reach_of.result c.args.q.now.den p c.args.q.now.den (2 ^ 61) (2 ^ 20) (omega arith) (omega arith) (omega arith) c.reach_of.ensures.value refl p_low c.requires.small_q.den c.product.ensures)
    (read_passed c.product-2.result c.reach_of-2.result c.args.p.now.den q c.args.p.now.den (2 ^ 61) (2 ^ 20) (omega arith) (omega arith) (omega arith) c.reach_of-2.ensures.value refl q_low c.requires.small_p.den c.product-2.ensures)
