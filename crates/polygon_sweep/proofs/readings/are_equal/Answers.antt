-- The comparison of the two products tells.
use Rattle.std.proofs.Common.{◌≡◌, ℤ, ◌*ℤ◌, ◌<ℤ◌, IsTrue, Bool, Less, Equal, Greater, arith}
use Rattle.std.specs.Bool.{◌==◌}
use Rattle.std.specs.Ordering.{MatchOrdering, ordering_index}
use Rattle.std.specs.declared.cmp.Ordering.{Ordering}
use Rattle.std.proofs.lemmas.Cmp.{int_ranked}
use Rattle.std.proofs.lemmas.Int.{ints}
use Rattle.corr_num.proofs.PrintedTerms.{narrow_returned}
use Rattle.polygon_sweep.proofs.readings.are_equal.Goals as goal

by_order : (x y : ℤ) (r : Ordering) (t : Bool) → t ≡ (ordering_index r == 1) → MatchOrdering r (x <ℤ y) (x ≡ y) (y <ℤ x) → (IsTrue t → x ≡ y) × (x ≡ y → IsTrue t)
by_order x y Less t e h = (λ i. absurd (cc), λ k. absurd (omega (arith, ints)))
by_order x y Equal t e h = (λ i. h, λ k. e)
by_order x y Greater t e h = (λ i. absurd (cc), λ k. absurd (omega (arith, ints)))

pub returns : goal.returns
returns c =
    let a = narrow_returned c.args.a c.requires.a_narrow in
    let b = narrow_returned c.args.b c.requires.b_narrow in
    let m = narrow_returned c.args.c c.requires.c_narrow in
    let d = narrow_returned c.args.d c.requires.d_narrow in
    let said = rw (a, b, m, d) at c.cmp_products.ensures in
    by_order (c.args.a *ℤ c.args.b) (c.args.c *ℤ c.args.d) c.cmp_products.result c.eq.result c.eq.ensures (int_ranked (c.args.a *ℤ c.args.b) (c.args.c *ℤ c.args.d) c.cmp_products.result said)
