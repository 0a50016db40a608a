-- Whether a test holds at some number below n, or at each, as a test again: by the first number that passes.
use Rattle.std.proofs.Common.{◌≡◌, ℕ, ◌<◌, Bool, true, false, refl}
use Rattle.exact_algebra.proofs.FiniteChoice.{FirstBelow, first, no_first, first_below}

abbrev found : {test : ℕ → Bool} {n : ℕ} → FirstBelow test n → Bool
found (first k h passes before) = true
found (no_first none) = false

-- Whether some number below n passes the test.
unfoldable pub some_below : (ℕ → Bool) → ℕ → Bool
some_below test n = found (first_below test n)

pub some_below-true : (test : ℕ → Bool) (n : ℕ) → some_below test n ≡ true → (k : ℕ) × (k < n) × (test k ≡ true)
unfolding some_below
some_below-true test n e = by (first_below test n) e
  where
    by : (f : FirstBelow test n) → found f ≡ true → (k : ℕ) × (k < n) × (test k ≡ true)
    by (first k h passes before) e = (k, h, passes)
    by (no_first none) e = absurd (cc)

pub some_below-false : (test : ℕ → Bool) (n : ℕ) → some_below test n ≡ false → (k : ℕ) → k < n → test k ≡ false
unfolding some_below
some_below-false test n e = by (first_below test n) e
  where
    by : (f : FirstBelow test n) → found f ≡ false → (k : ℕ) → k < n → test k ≡ false
    by (first k h passes before) e = absurd (cc)
    by (no_first none) e = none

pub some_below_yes : (test : ℕ → Bool) (n k : ℕ) → k < n → test k ≡ true → some_below test n ≡ true
some_below_yes test n k h passes = by (some_below test n) refl
  where
    by : (t : Bool) → some_below test n ≡ t → t ≡ true
    by true e = refl
    by false e = let fails = some_below-false test n e k h in absurd (cc)

pub some_below_no : (test : ℕ → Bool) (n : ℕ) → ((k : ℕ) → k < n → test k ≡ false) → some_below test n ≡ false
some_below_no test n none = by (some_below test n) refl
  where
    by : (t : Bool) → some_below test n ≡ t → t ≡ false
    by false e = refl
    by true e = let passes = some_below-true test n e in let fails = none passes.0 passes.1 in absurd (cc (passes.2))
