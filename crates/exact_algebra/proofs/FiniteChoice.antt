-- Choice among the numbers below n: a first and a last one with a property that a test decides, and a best one in an order.
-- By induction on n, where the new number is tested or compared with the choice so far.
use Rattle.std.proofs.Common.{◌≡◌, ℕ, zero, suc, ◌<◌, ◌≤◌, Bool, true, false, ◌⊎◌, inl, inr, ⊎_elim, refl, arith}
use Rattle.std.proofs.lemmas.Bool.{cases_lt}

-- The first number below n that passes the test, or the news that none does.
pub data FirstBelow (test : ℕ → Bool) (n : ℕ) : Type 0 where
  first : (k : ℕ) → k < n → test k ≡ true → ((j : ℕ) → j < k → test j ≡ false) → FirstBelow test n
  no_first : ((j : ℕ) → j < n → test j ≡ false) → FirstBelow test n

-- The last number below n that passes the test, or the news that none does.
pub data LastBelow (test : ℕ → Bool) (n : ℕ) : Type 0 where
  last : (k : ℕ) → k < n → test k ≡ true → ((j : ℕ) → k < j → j < n → test j ≡ false) → LastBelow test n
  no_last : ((j : ℕ) → j < n → test j ≡ false) → LastBelow test n

-- What holds of each number below n, and of n, holds of each below n + 1.
pub each_more : (P : ℕ → Type 0) (n : ℕ) → ((j : ℕ) → j < n → P j) → P n → (j : ℕ) → j < suc n → P j
each_more P n below here j h = by (cases_lt j n)
  where
    by : (j < n) ⊎ (n ≤ j) → P j
    by (inl l) = below j l
    by (inr l) = let e : j ≡ n = omega arith in rw e here

pub first_below : (test : ℕ → Bool) (n : ℕ) → FirstBelow test n
first_below test zero = no_first (λ j h. absurd (omega arith))
first_below test (suc n) = by (first_below test n)
  where
    at : (t : Bool) → test n ≡ t → ((j : ℕ) → j < n → test j ≡ false) → FirstBelow test (suc n)
    at true e none = first n (omega arith) e none
    at false e none = no_first (each_more (λ j. test j ≡ false) n none e)

    by : FirstBelow test n → FirstBelow test (suc n)
    by (first k h passes before) = first k (omega arith) passes before
    by (no_first none) = at (test n) refl none

pub last_below : (test : ℕ → Bool) (n : ℕ) → LastBelow test n
last_below test zero = no_last (λ j h. absurd (omega arith))
last_below test (suc n) = by (test n) refl (last_below test n)
  where
    by : (t : Bool) → test n ≡ t → LastBelow test n → LastBelow test (suc n)
    by true e before = last n (omega arith) e (λ j low high. absurd (omega arith))
    by false e (last k h passes after) = last k (omega arith) passes (λ j low high. each_more (λ i. k < i → test i ≡ false) n (λ i l m. after i m l) (λ m. e) j high low)
    by false e (no_last none) = no_last (each_more (λ j. test j ≡ false) n none e)

-- A number below n that passes the test and has no better one among those that pass, or the news that none passes.
pub data BestBelow (test : ℕ → Bool) (AtMost : ℕ → ℕ → Type 0) (n : ℕ) : Type 0 where
  best : (k : ℕ) → k < n → test k ≡ true → ((j : ℕ) → j < n → test j ≡ true → AtMost j k) → BestBelow test AtMost n
  no_best : ((j : ℕ) → j < n → test j ≡ false) → BestBelow test AtMost n

-- The order is to be total and transitive among the numbers that pass.
module _ (test : ℕ → Bool) (AtMost : ℕ → ℕ → Type 0)
    (total : (i j : ℕ) → test i ≡ true → test j ≡ true → AtMost i j ⊎ AtMost j i)
    (trans : (i j k : ℕ) → test i ≡ true → test j ≡ true → test k ≡ true → AtMost i j → AtMost j k → AtMost i k) where
  pub best_below : (n : ℕ) → BestBelow test AtMost n
  best_below zero = no_best (λ j h. absurd (omega arith))
  best_below (suc n) = by (test n) refl (best_below n)
    where
      itself : test n ≡ true → AtMost n n
      itself e = ⊎_elim (λ r. r) (λ r. r) (total n n e e)

      compared : (k : ℕ) → k < n → test k ≡ true → ((j : ℕ) → j < n → test j ≡ true → AtMost j k) → test n ≡ true → AtMost k n ⊎ AtMost n k → BestBelow test AtMost (suc n)
      compared k h passes over e (inl r) = best n (omega arith) e (each_more (λ j. test j ≡ true → AtMost j n) n (λ j l p. trans j k n p passes e (over j l p) r) itself)
      compared k h passes over e (inr r) = best k (omega arith) passes (each_more (λ j. test j ≡ true → AtMost j k) n over (λ p. r))

      by : (t : Bool) → test n ≡ t → BestBelow test AtMost n → BestBelow test AtMost (suc n)
      by true e (best k h passes over) = compared k h passes over e (total k n passes e)
      by true e (no_best none) = best n (omega arith) e (each_more (λ j. test j ≡ true → AtMost j n) n (λ j l p. absurd (cc (none j l))) itself)
      by false e (best k h passes over) = best k (omega arith) passes (each_more (λ j. test j ≡ true → AtMost j k) n over (λ p. absurd (cc)))
      by false e (no_best none) = no_best (each_more (λ j. test j ≡ false) n none e)
