-- The comparison of the two products is the sign of their difference.
use Rattle.std.proofs.Common.{◌≡◌, ℤ, pos, ◌-ℤ◌, ◌*ℤ◌, ◌<ℤ◌, IsTrue, Bool, to_z, of_z, int_cmp, Less, Equal, Greater, arith}
use Rattle.std.specs.Bool.{◌==◌}
use Rattle.std.specs.Int.{w128}
use Rattle.std.specs.Ordering.{MatchOrdering, ordering_index}
use Rattle.std.specs.declared.cmp.Ordering.{Ordering}
use Rattle.std.proofs.lemmas.Cmp.{int_ranked}
use Rattle.std.proofs.lemmas.Int.{ints}
use Rattle.corr_num.specs.Narrow.{Narrow}
use Rattle.corr_num.proofs.PrintedTerms.{narrow_returned}
use Rattle.polygon_sweep.specs.Turning.{cross}
use Rattle.polygon_sweep.proofs.bearings.is_before.Goals as goal

by_order : (x y : ℤ) (r : Ordering) (t : Bool) → t ≡ (ordering_index r == 2) → MatchOrdering r (x <ℤ y) (x ≡ y) (y <ℤ x) → (IsTrue t → pos 0 <ℤ (x -ℤ y)) × (pos 0 <ℤ (x -ℤ y) → IsTrue t)
by_order x y Less t e h = (λ i. absurd (cc), λ k. absurd (omega (arith, ints)))
by_order x y Equal t e h = (λ i. absurd (cc), λ k. absurd (omega (arith, ints)))
by_order x y Greater t e h = (λ i. omega (arith, ints), λ k. e)

tells : (a b c d : ℤ) (r : Ordering) (t : Bool) → Narrow a → Narrow b → Narrow c → Narrow d → r ≡ int_cmp (to_z w128 (of_z w128 a) *ℤ to_z w128 (of_z w128 d)) (to_z w128 (of_z w128 b) *ℤ to_z w128 (of_z w128 c)) → t ≡ (ordering_index r == 2) → (IsTrue t → pos 0 <ℤ cross a b c d) × (pos 0 <ℤ cross a b c d → IsTrue t)
tells a b c d r t na nb nc nd e is =
    let said = rw (narrow_returned a na, narrow_returned b nb, narrow_returned c nc, narrow_returned d nd) at e in
    by_order (a *ℤ d) (b *ℤ c) r t is (int_ranked (a *ℤ d) (b *ℤ c) r said)

pub returns : goal.returns
returns c = tells c.args.one.now.a c.args.one.now.b c.args.other.now.a c.args.other.now.b c.cmp_products.result c.eq.result c.args.one.now.a_narrow c.args.one.now.b_narrow c.args.other.now.a_narrow c.args.other.now.b_narrow c.cmp_products.ensures c.eq.ensures
