-- Uses of sums and of order with products.
use Rattle.std.proofs.Common.{◌≡◌, ℕ, zero, suc, ◌<◌, ℤ, pos, ◌-ℤ◌, ◌*ℤ◌, ◌≤ℤ◌, ap, ap₂, ◌∙◌, arith}
use Rattle.exact_algebra.proofs.Families.{put, put-same, put-other}
use Rattle.exact_algebra.proofs.Order.{square_not_negative, square_nothing, products_at_most}
use Rattle.exact_algebra.proofs.RingLaws.{*ℤ-zero, *ℤ-one}
use Rattle.exact_algebra.proofs.RingTactic.{ring_laws, linear}
use Rattle.exact_algebra.proofs.SumOrder.{each_nothing}
use Rattle.exact_algebra.proofs.Sums.{sum_to-zero, sum_to-suc, sum_to-one, sum_to-difference, sum_to-scale}
use Rattle.exact_algebra.specs.Sums.{sum_to}

linear_combination : (n : ℕ) (f g : ℕ → ℤ) → sum_to n (λ k. pos 2 *ℤ f k -ℤ pos 3 *ℤ g k) ≡ pos 2 *ℤ sum_to n f -ℤ pos 3 *ℤ sum_to n g
linear_combination n f g = sum_to-difference n (λ k. pos 2 *ℤ f k) (λ k. pos 3 *ℤ g k) ∙ ap₂ (λ u v. u -ℤ v) (sum_to-scale n (pos 2) f) (sum_to-scale n (pos 3) g)

-- Twice the sum of 0 .. n is n times n + 1.
gauss : (n : ℕ) → pos 2 *ℤ sum_to (suc n) (λ k. pos k) ≡ pos n *ℤ pos (suc n)
gauss zero = let none = sum_to-zero (λ k. pos k) in rw (sum_to-suc 0 (λ k. pos k), none)
gauss (suc n) =
    let before = simp ring_laws at (gauss n) in
    let last = sum_to-suc (suc n) (λ k. pos k) in
    omega (arith, linear)

-- The sum of squares is 0 only where each number is.
all_nothing : (n j : ℕ) (f : ℕ → ℤ) → j < n → sum_to n (λ k. f k *ℤ f k) ≡ pos 0 → f j ≡ pos 0
all_nothing n j f within none_left = square_nothing (f j) (each_nothing n j (λ k. f k *ℤ f k) within (λ k h. square_not_negative (f k)) none_left)

-- A row times a unit vector is the entry.
unit_vector : (n j : ℕ) (row : ℕ → ℤ) → j < n → sum_to n (λ k. row k *ℤ put (λ i. pos 0) j (pos 1) k) ≡ row j
unit_vector n j row within =
    sum_to-one n j _ within (λ k h apart. ap (λ e. row k *ℤ e) (put-other (λ i. pos 0) j (pos 1) k apart) ∙ *ℤ-zero (row k))
    ∙ (ap (λ e. row j *ℤ e) (put-same (λ i. pos 0) j (pos 1)) ∙ *ℤ-one (row j))

squares_at_most : (a b : ℤ) → pos 0 ≤ℤ a → a ≤ℤ b → (a *ℤ a) ≤ℤ (b *ℤ b)
squares_at_most a b h k = products_at_most h k h k
