-- The order in which Bland's rule takes the rows: by the ratio of right side to entry, and by rank where ratios are equal. It is
-- total and transitive among the rows with a positive entry, by fractions compared across.
use Rattle.std.proofs.Common.{◌≡◌, ◌≢◌, ◌⊎◌, ℕ, ◌<◌, ◌≤◌, ℤ, pos, ◌*ℤ◌, ◌≤ℤ◌, ◌<ℤ◌, sym, ⊎_elim, inl, inr, arith}
use Rattle.std.proofs.lemmas.Bool.{cases_lt}
use Rattle.std.proofs.lemmas.Int.{ints}
use lib.Signed.{lt_z}
use Rattle.exact_algebra.proofs.FiniteChoice.{BestBelow, best_below}
use Rattle.exact_algebra.proofs.Fractions.{fraction_trans, fraction_trans_below, fraction_trans_same}
use Rattle.exact_algebra.proofs.Order.{below_or_at_least}

module _ (entry side : ℕ → ℤ) (rank : ℕ → ℕ) where
  -- Row k comes no later than row i.
  abbrev pub NoLater : ℕ → ℕ → Type 0
  NoLater i k = ((side k *ℤ entry i) <ℤ (side i *ℤ entry k)) ⊎ ((side k *ℤ entry i ≡ side i *ℤ entry k) × (rank k ≤ rank i))

  total : (i j : ℕ) → NoLater i j ⊎ NoLater j i
  total i j = ⊎_elim (λ (l : (side j *ℤ entry i) <ℤ (side i *ℤ entry j)). inl (inl l)) (λ (l : (side i *ℤ entry j) ≤ℤ (side j *ℤ entry i)). ⊎_elim (λ (g : (side i *ℤ entry j) <ℤ (side j *ℤ entry i)). inr (inl g)) (λ (g : (side j *ℤ entry i) ≤ℤ (side i *ℤ entry j)). tie (omega (arith, ints))) (below_or_at_least (side i *ℤ entry j) (side j *ℤ entry i))) (below_or_at_least (side j *ℤ entry i) (side i *ℤ entry j))
    where
      tie : side j *ℤ entry i ≡ side i *ℤ entry j → NoLater i j ⊎ NoLater j i
      tie e = ⊎_elim (λ (l : rank i < rank j). inr (inr (sym e, omega arith))) (λ (l : rank j ≤ rank i). inl (inr (e, l))) (cases_lt (rank i) (rank j))

  trans : (i j k : ℕ) → pos 0 <ℤ entry i → pos 0 <ℤ entry j → pos 0 <ℤ entry k → NoLater i j → NoLater j k → NoLater i k
  trans i j k p q r one two = by one two
    where
      by : NoLater i j → NoLater j k → NoLater i k
      by (inl low) (inl high) = inl (fraction_trans_below (side k) (entry k) (side j) (entry j) (side i) (entry i) r q p high (omega (arith, ints)))
      by (inl low) (inr (high, l)) = ⊎_elim
          (λ (g : (side k *ℤ entry i) <ℤ (side i *ℤ entry k)). inl g)
          (λ (g : (side i *ℤ entry k) ≤ℤ (side k *ℤ entry i)). let back = fraction_trans (side i) (entry i) (side k) (entry k) (side j) (entry j) p r q g (omega (arith, ints)) in absurd (omega (arith, ints)))
          (below_or_at_least (side k *ℤ entry i) (side i *ℤ entry k))
      by (inr (low, l)) (inl high) = inl (fraction_trans_below (side k) (entry k) (side j) (entry j) (side i) (entry i) r q p high (omega (arith, ints)))
      by (inr (low, l)) (inr (high, h)) = let other : entry j ≢ pos 0 = λ e. omega (arith, ints) in inr (fraction_trans_same (side k) (entry k) (side j) (entry j) (side i) (entry i) other high low, omega arith)

  -- The row that the rule takes, among those below m with a positive entry.
  pub first_row_of : (m : ℕ) → BestBelow (λ i. lt_z (pos 0) (entry i)) NoLater m
  first_row_of m = best_below (λ i. lt_z (pos 0) (entry i)) NoLater (λ i j p q. total i j) (λ i j k p q r. trans i j k (omega (arith, ints)) (omega (arith, ints)) (omega (arith, ints))) m
