-- Uses of finite choice: a column that may enter, and the rows of least ratio in the simplex method.
use Rattle.std.proofs.Common.{◌≡◌, ℕ, ◌<◌, true, ℤ, pos, ◌*ℤ◌, ◌≤ℤ◌, ◌<ℤ◌, ◌⊎◌, inl, inr, ⊎_elim, arith}
use Rattle.std.proofs.lemmas.Int.{ints}
use Rattle.exact_algebra.proofs.FiniteChoice.{FirstBelow, first, no_first, first_below, BestBelow, best_below}
use Rattle.exact_algebra.proofs.Fractions.{fraction_trans}
use Rattle.exact_algebra.proofs.Order.{at_most_or_above}
use lib.Signed.{lt_z}

-- The first negative number of f 0 .. f (n - 1), or none is negative.
first_negative : (n : ℕ) (f : ℕ → ℤ) → ((k : ℕ) × (k < n) × (f k <ℤ pos 0)) ⊎ ((j : ℕ) → j < n → pos 0 ≤ℤ f j)
first_negative n f = by (first_below (λ k. lt_z (f k) (pos 0)) n)
  where
    by : FirstBelow (λ k. lt_z (f k) (pos 0)) n → ((k : ℕ) × (k < n) × (f k <ℤ pos 0)) ⊎ ((j : ℕ) → j < n → pos 0 ≤ℤ f j)
    by (first k h passes before) = inl (k, h, omega (arith, ints))
    by (no_first none) = inr (λ j h. let fails = none j h in omega (arith, ints))

-- Among the rows with a positive entry one has the least ratio of right side to entry.
least_ratio : (m : ℕ) (entry side : ℕ → ℤ) → BestBelow (λ i. lt_z (pos 0) (entry i)) (λ i k. (side k *ℤ entry i) ≤ℤ (side i *ℤ entry k)) m
least_ratio m entry side = best_below (λ i. lt_z (pos 0) (entry i)) (λ i k. (side k *ℤ entry i) ≤ℤ (side i *ℤ entry k)) total trans m
  where
    total : (i j : ℕ) → lt_z (pos 0) (entry i) ≡ true → lt_z (pos 0) (entry j) ≡ true → ((side j *ℤ entry i) ≤ℤ (side i *ℤ entry j)) ⊎ ((side i *ℤ entry j) ≤ℤ (side j *ℤ entry i))
    total i j p q = ⊎_elim inl (λ l. inr (omega (arith, ints))) (at_most_or_above (side j *ℤ entry i) (side i *ℤ entry j))

    trans : (i j k : ℕ) → lt_z (pos 0) (entry i) ≡ true → lt_z (pos 0) (entry j) ≡ true → lt_z (pos 0) (entry k) ≡ true → (side j *ℤ entry i) ≤ℤ (side i *ℤ entry j) → (side k *ℤ entry j) ≤ℤ (side j *ℤ entry k) → (side k *ℤ entry i) ≤ℤ (side i *ℤ entry k)
    trans i j k p q r low high = fraction_trans (side k) (entry k) (side j) (entry j) (side i) (entry i) (omega (arith, ints)) (omega (arith, ints)) (omega (arith, ints)) high low
