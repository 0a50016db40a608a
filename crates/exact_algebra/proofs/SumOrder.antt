-- Order and magnitude of sums over an index: by induction on how many terms there are.
use Rattle.std.proofs.Common.{◌≡◌, ◌≢◌, ◌⊎◌, ℕ, zero, suc, ◌+◌, ◌*◌, ◌<◌, ◌≤◌, ℤ, pos, ◌+ℤ◌, ◌-ℤ◌, unsigned_abs, ◌≤ℤ◌, ◌<ℤ◌, sym, inl, inr, arith}
use Rattle.std.proofs.lemmas.Bool.{cases_eq}
use Rattle.std.proofs.lemmas.Int.{ints}
use Rattle.exact_algebra.proofs.Families.{put, put-same, put-other}
use Rattle.exact_algebra.proofs.Order.{difference_not_negative, difference_positive}
use Rattle.exact_algebra.proofs.RingTactic.{linear}
use Rattle.exact_algebra.proofs.Sums.{sum_to-changed, sum_to-difference}
use Rattle.exact_algebra.specs.Sums.{sum_to}

pub sum_to_not_negative : (n : ℕ) (f : ℕ → ℤ) → ((k : ℕ) → k < n → pos 0 ≤ℤ f k) → pos 0 ≤ℤ sum_to n f
unfolding sum_to
sum_to_not_negative zero f each = omega (arith, ints)
sum_to_not_negative (suc n) f each =
    let before = sum_to_not_negative n f (λ k h. each k (omega arith)) in
    let last = each n (omega arith) in
    omega (arith, linear)

pub sum_to_at_most : (n : ℕ) (f g : ℕ → ℤ) → ((k : ℕ) → k < n → f k ≤ℤ g k) → sum_to n f ≤ℤ sum_to n g
unfolding sum_to
sum_to_at_most zero f g each = omega (arith, ints)
sum_to_at_most (suc n) f g each =
    let before = sum_to_at_most n f g (λ k h. each k (omega arith)) in
    let last = each n (omega arith) in
    omega (arith, linear)

-- A term is at most the sum of terms that are not negative.
pub term_at_most : (n j : ℕ) (f : ℕ → ℤ) → j < n → ((k : ℕ) → k < n → pos 0 ≤ℤ f k) → f j ≤ℤ sum_to n f
term_at_most n j f within each =
    let without = put f j (pos 0) in
    let changed = sum_to-changed n j f without within (λ k h d. sym (put-other f j (pos 0) k d)) in
    let at_j = put-same f j (pos 0) in
    let rest = sum_to_not_negative n without (λ k h. by k h (cases_eq k j)) in
    omega (arith, linear)
  where
    by : (k : ℕ) → k < n → (k ≡ j) ⊎ (k ≢ j) → pos 0 ≤ℤ put f j (pos 0) k
    by k h (inl e) = rw (e, put-same f j (pos 0)) (omega (arith, ints))
    by k h (inr d) = rw (put-other f j (pos 0) k d) (each k h)

-- Terms that are not negative and have the sum 0 are 0.
pub each_nothing : (n j : ℕ) (f : ℕ → ℤ) → j < n → ((k : ℕ) → k < n → pos 0 ≤ℤ f k) → sum_to n f ≡ pos 0 → f j ≡ pos 0
each_nothing n j f within each none_left =
    let low = each j within in
    let high = term_at_most n j f within each in
    omega (arith, linear)

-- One sum is below another where no term is above the other's and one is below.
pub sum_to_below : (n j : ℕ) (f g : ℕ → ℤ) → j < n → ((k : ℕ) → k < n → f k ≤ℤ g k) → f j <ℤ g j → sum_to n f <ℤ sum_to n g
sum_to_below n j f g within each strict =
    let gap = λ (k : ℕ). g k -ℤ f k in
    let at_j = term_at_most n j gap within (λ k h. difference_not_negative (each k h)) in
    let whole = sum_to-difference n g f in
    let above : pos 0 <ℤ gap j = difference_positive strict in
    omega (arith, linear)

-- ---- magnitude
pub magnitude-sum : (a b : ℤ) → unsigned_abs (a +ℤ b) ≤ unsigned_abs a + unsigned_abs b
magnitude-sum a b = omega (arith, ints)

pub sum_to_bounded : (n m : ℕ) (f : ℕ → ℤ) → ((k : ℕ) → k < n → unsigned_abs (f k) ≤ m) → unsigned_abs (sum_to n f) ≤ n * m
unfolding sum_to
sum_to_bounded zero m f each = omega arith
sum_to_bounded (suc n) m f each =
    let before = sum_to_bounded n m f (λ k h. each k (omega arith)) in
    let last = each n (omega arith) in
    omega (arith, magnitude-sum (sum_to n f) (f n))
