-- The determinant with a mixture of vectors in one place is the mixture of the determinants. By induction on how many vectors
-- are mixed.
use Rattle.std.proofs.Common.{◌≡◌, ℕ, zero, suc, ◌<◌, ℤ, pos, ◌*ℤ◌, refl, sym, ◌∙◌, arith}
use Rattle.exact_algebra.proofs.Families.{put}
use Rattle.exact_algebra.proofs.RingLaws.{*ℤ_comm}
use Rattle.exact_algebra.proofs.RingTactic.{linear}
use Rattle.exact_algebra.proofs.Sums.{sum_to-zero, sum_to-suc}
use Rattle.exact_algebra.specs.Sums.{sum_to}
use Rattle.exact_linear.proofs.Determinant.{agree_put, det-same, det-linear, mixed}
use Rattle.exact_linear.specs.Determinant.{det}

-- One vector put in the place j by another one of the same coordinates.
pub det-vector : (n j : ℕ) (V : ℕ → ℕ → ℤ) (u v : ℕ → ℤ) → ((c : ℕ) → c < n → u c ≡ v c) → det n (put V j u) ≡ det n (put V j v)
det-vector n j V u v same = det-same n (put V j u) (put V j v) (agree_put n V V j u v (record { at = λ k c h l. refl }) same)

pub det-scaled : (n j : ℕ) (V : ℕ → ℕ → ℤ) (a : ℤ) (u : ℕ → ℤ) → j < n → det n (put V j (λ c. a *ℤ u c)) ≡ a *ℤ det n (put V j u)
det-scaled n j V a u h =
    let same = det-vector n j V (λ c. a *ℤ u c) (mixed a (pos 0) u u) (λ c l. omega (arith, linear)) in
    let parts = det-linear n j V a (pos 0) u u h in
    omega (arith, linear)

pub det-sum : (n j : ℕ) (V U : ℕ → ℕ → ℤ) (x : ℕ → ℤ) (K : ℕ) → j < n → det n (put V j (λ c. sum_to K (λ k. U k c *ℤ x k))) ≡ sum_to K (λ k. det n (put V j (U k)) *ℤ x k)
det-sum n j V U x zero h =
    let empty = det-vector n j V (λ c. sum_to 0 (λ k. U k c *ℤ x k)) (λ c. pos 0 *ℤ V j c) (λ c l. sum_to-zero (λ k. U k c *ℤ x k) ∙ omega (arith, linear)) in
    let none = det-scaled n j V (pos 0) (V j) h in
    let nothing = sum_to-zero (λ k. det n (put V j (U k)) *ℤ x k) in
    omega (arith, linear)
det-sum n j V U x (suc K) h =
    let before = det-sum n j V U x K h in
    let parted = det-vector n j V (λ c. sum_to (suc K) (λ k. U k c *ℤ x k)) (mixed (pos 1) (x K) (λ c. sum_to K (λ k. U k c *ℤ x k)) (U K))
    (λ c l. let more = sum_to-suc K (λ k. U k c *ℤ x k) in let turn = *ℤ_comm (U K c) (x K) in omega (arith, linear)) in
    let parts = det-linear n j V (pos 1) (x K) (λ c. sum_to K (λ k. U k c *ℤ x k)) (U K) h in
    let whole = sum_to-suc K (λ k. det n (put V j (U k)) *ℤ x k) in
    let turn = *ℤ_comm (det n (put V j (U K))) (x K) in
    omega (arith, linear)

-- A relation between vectors is one between the determinants that have them in one place.
pub det-mixture : (n j : ℕ) (V U : ℕ → ℕ → ℤ) (x : ℕ → ℤ) (K : ℕ) (e : ℤ) (w : ℕ → ℤ) → j < n → ((c : ℕ) → c < n → sum_to K (λ k. U k c *ℤ x k) ≡ e *ℤ w c) →
    sum_to K (λ k. det n (put V j (U k)) *ℤ x k) ≡ e *ℤ det n (put V j w)
det-mixture n j V U x K e w h mixture = sym (det-sum n j V U x K h) ∙ (det-vector n j V (λ c. sum_to K (λ k. U k c *ℤ x k)) (λ c. e *ℤ w c) mixture ∙ det-scaled n j V e w h)
