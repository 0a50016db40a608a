-- The sign of a reduced cost is the order of two products, so that a column improves where the tests of the code say so.
use Rattle.std.proofs.Common.{◌≡◌, ◌⊎◌, inl, inr, Bool, true, false, ℤ, pos, ◌+ℤ◌, ◌-ℤ◌, ◌*ℤ◌, ◌<ℤ◌, IsTrue, to_z, of_z, int_cmp, Less, Equal, Greater, refl, arith}
use Rattle.std.specs.Bool.{◌==◌}
use Rattle.std.specs.Int.{w128}
use Rattle.std.specs.Ordering.{MatchOrdering, ordering_index}
use Rattle.std.specs.declared.cmp.Ordering.{Ordering}
use Rattle.std.proofs.lemmas.Cmp.{int_ranked}
use Rattle.std.proofs.lemmas.Int.{ints}
use Rattle.exact_algebra.proofs.RingTactic.{ring_laws, linear}
use Rattle.corr_num.specs.Narrow.{Narrow}
use Rattle.corr_num.proofs.PrintedTerms.{narrow_returned}

below_0 : (a b f s : ℤ) → (a *ℤ f) <ℤ ((pos 0 -ℤ b) *ℤ s) → (a *ℤ f +ℤ b *ℤ s) <ℤ pos 0
below_0 a b f s h = let k = simp ring_laws at h in omega (arith, linear, k)

is_0 : (a b f s : ℤ) → a *ℤ f ≡ (pos 0 -ℤ b) *ℤ s → a *ℤ f +ℤ b *ℤ s ≡ pos 0
is_0 a b f s h = let k = simp ring_laws at h in omega (arith, linear, k)

above_0 : (a b f s : ℤ) → ((pos 0 -ℤ b) *ℤ s) <ℤ (a *ℤ f) → pos 0 <ℤ (a *ℤ f +ℤ b *ℤ s)
above_0 a b f s h = let k = simp ring_laws at h in omega (arith, linear, k)

by_order : (a b f s : ℤ) (r : Ordering) →
    MatchOrdering r ((a *ℤ f) <ℤ ((pos 0 -ℤ b) *ℤ s)) (a *ℤ f ≡ (pos 0 -ℤ b) *ℤ s) (((pos 0 -ℤ b) *ℤ s) <ℤ (a *ℤ f)) →
    MatchOrdering r ((a *ℤ f +ℤ b *ℤ s) <ℤ pos 0) (a *ℤ f +ℤ b *ℤ s ≡ pos 0) (pos 0 <ℤ (a *ℤ f +ℤ b *ℤ s))
by_order a b f s Less h = below_0 a b f s h
by_order a b f s Equal h = is_0 a b f s h
by_order a b f s Greater h = above_0 a b f s h

-- the first comparison tells the sign of the reduced cost
pub reduced_sign : (a b f s first second : ℤ) (r : Ordering) → Narrow a → Narrow b → Narrow f → Narrow s → f ≡ first → s ≡ second →
    r ≡ int_cmp (to_z w128 (of_z w128 a) *ℤ to_z w128 (of_z w128 f))
    (to_z w128 (of_z w128 (pos 0 -ℤ to_z w128 (of_z w128 b))) *ℤ to_z w128 (of_z w128 s)) → MatchOrdering r
    ((a *ℤ first +ℤ b *ℤ second) <ℤ pos 0) (a *ℤ first +ℤ b *ℤ second ≡ pos 0) (pos 0 <ℤ (a *ℤ first +ℤ b *ℤ second))
reduced_sign a b f s first second r na nb nf ns ef es e =
    let turned : Narrow (pos 0 -ℤ b) = omega (arith, ints) in
    let said = rw (
      narrow_returned a na,
      narrow_returned f nf,
      narrow_returned b nb,
      narrow_returned (pos 0 -ℤ b)
          turned,
      narrow_returned s ns,
    ) at e in
    rw (← ef, ← es) (by_order a b f s r (int_ranked (a *ℤ f) ((pos 0 -ℤ b) *ℤ s) r said))

left_by_order : (x y : ℤ) (r : Ordering) (t : Bool) → t ≡ (ordering_index r == 0) → MatchOrdering r (x <ℤ y) (x ≡ y) (y <ℤ x) →
    (IsTrue t → (x -ℤ y) <ℤ pos 0) × ((x -ℤ y) <ℤ pos 0 → IsTrue t)
left_by_order x y Less t e h = (λ i. omega (arith, ints), λ k. e)
left_by_order x y Equal t e h = (λ i. absurd (cc), λ k. absurd (omega (arith, ints)))
left_by_order x y Greater t e h = (λ i. absurd (cc), λ k. absurd (omega (arith, ints)))

-- the second comparison tells the sign in the left turn
pub left_sign : (a b f s first second : ℤ) (r : Ordering) (t : Bool) → Narrow a → Narrow b → Narrow f → Narrow s → f ≡ first →
    s ≡ second → r ≡ int_cmp (to_z w128 (of_z w128 a) *ℤ to_z w128 (of_z w128 s)) (to_z w128 (of_z w128 b) *ℤ to_z w128 (of_z w128 f)) →
    t ≡ (ordering_index r == 0) → (IsTrue t → (a *ℤ second -ℤ b *ℤ first) <ℤ pos 0) × ((a *ℤ second -ℤ b *ℤ first) <ℤ pos 0 → IsTrue t)
left_sign a b f s first second r t na nb nf ns ef es e d =
    let said = rw (narrow_returned a na, narrow_returned s ns, narrow_returned b nb, narrow_returned f nf) at e in
    rw (← ef, ← es) (left_by_order (a *ℤ s) (b *ℤ f) r t d (int_ranked (a *ℤ s) (b *ℤ f) r said))

-- ---- a column of reduced cost u, and v in the left turn, improves

pub when_below : (u v : ℤ) → u <ℤ pos 0 →
    (IsTrue true → (u <ℤ pos 0) ⊎ ((u ≡ pos 0) × (v <ℤ pos 0))) × ((u <ℤ pos 0) ⊎ ((u ≡ pos 0) × (v <ℤ pos 0)) → IsTrue true)
when_below u v h = (λ t. inl h, λ i. refl)

pub when_level : (u v : ℤ) (t : Bool) → u ≡ pos 0 → (IsTrue t → v <ℤ pos 0) × (v <ℤ pos 0 → IsTrue t) →
    (IsTrue t → (u <ℤ pos 0) ⊎ ((u ≡ pos 0) × (v <ℤ pos 0))) × ((u <ℤ pos 0) ⊎ ((u ≡ pos 0) × (v <ℤ pos 0)) → IsTrue t)
when_level u v t e both = (λ i. inr (e, both.0 i), back)
  where
    back : (u <ℤ pos 0) ⊎ ((u ≡ pos 0) × (v <ℤ pos 0)) → IsTrue t
    back (inl h) = absurd (omega (arith, ints))
    back (inr h) = both.1 h.1

pub when_above : (u v : ℤ) → pos 0 <ℤ u →
    (IsTrue false → (u <ℤ pos 0) ⊎ ((u ≡ pos 0) × (v <ℤ pos 0))) × ((u <ℤ pos 0) ⊎ ((u ≡ pos 0) × (v <ℤ pos 0)) → IsTrue false)
when_above u v h = (λ t. absurd (cc), back)
  where
    back : (u <ℤ pos 0) ⊎ ((u ≡ pos 0) × (v <ℤ pos 0)) → IsTrue false
    back (inl k) = absurd (omega (arith, ints))
    back (inr k) = absurd (omega (arith, ints, k.0))
