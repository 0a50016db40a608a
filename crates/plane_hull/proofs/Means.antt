-- Means of corners as sums: three corners with their weights, and all else taken 0 times.
use Rattle.std.proofs.Common.{◌≡◌, ℕ, ◌+◌, ◌<◌, ◌∙◌, ap, ℤ, pos, ◌+ℤ◌, ◌*ℤ◌, arith}
use Rattle.std.proofs.lemmas.Int.{ints}
use Rattle.exact_algebra.specs.Sums.{sum_to}
use Rattle.exact_algebra.proofs.Families.{put, put-other, put-same}
use Rattle.exact_algebra.proofs.RingLaws.{zero-*ℤ}
use Rattle.exact_algebra.proofs.RingTactic.{ring_laws, linear}
use Rattle.exact_algebra.proofs.Sums.{sum_to-add, sum_to-one, sum_to-same}

-- one index taken so many times
abbrev pub only : ℕ → ℕ → ℕ → ℕ
only j m = put (λ k. 0) j m

sum_only : (n j m : ℕ) (f : ℕ → ℤ) → j < n → sum_to n (λ k. pos (only j m k) *ℤ f k) ≡ pos m *ℤ f j
sum_only n j m f low =
    sum_to-one n j (λ k. pos (only j m k) *ℤ f k) low (λ k inside apart. ap (λ (i : ℕ). pos i *ℤ f k) (put-other (λ k. 0) j m k apart) ∙ zero-*ℤ (f k))
    ∙ ap (λ (i : ℕ). pos i *ℤ f j) (put-same (λ k. 0) j m)

-- three indices, which may be the same
abbrev pub three_times : ℕ → ℕ → ℕ → ℕ → ℕ → ℕ → ℕ → ℕ
three_times i p j q k r c = only i p c + only j q c + only k r c

pub sum_three : (n i p j q k r : ℕ) (f : ℕ → ℤ) → i < n → j < n → k < n
    → sum_to n (λ c. pos (three_times i p j q k r c) *ℤ f c) ≡ pos p *ℤ f i +ℤ pos q *ℤ f j +ℤ pos r *ℤ f k
sum_three n i p j q k r f i_in j_in k_in =
    sum_to-same n (λ c. pos (three_times i p j q k r c) *ℤ f c) (λ c. pos (only i p c) *ℤ f c +ℤ pos (only j q c) *ℤ f c +ℤ pos (only k r c) *ℤ f c)
    (λ c low. parted (only i p c) (only j q c) (only k r c) (f c))
    ∙ (sum_to-add n (λ c. pos (only i p c) *ℤ f c +ℤ pos (only j q c) *ℤ f c) (λ c. pos (only k r c) *ℤ f c)
    ∙ (ap (λ (x : ℤ). x +ℤ sum_to n (λ c. pos (only k r c) *ℤ f c)) (sum_to-add n (λ c. pos (only i p c) *ℤ f c) (λ c. pos (only j q c) *ℤ f c))
    ∙ joined _ _ _ _ _ _ (sum_only n i p f i_in) (sum_only n j q f j_in) (sum_only n k r f k_in)))
  where
    parted : (a b c : ℕ) (x : ℤ) → pos (a + b + c) *ℤ x ≡ pos a *ℤ x +ℤ pos b *ℤ x +ℤ pos c *ℤ x
    parted a b c x = spread (pos a) (pos b) (pos c) x
      where
        spread : (a b c x : ℤ) → (a +ℤ b +ℤ c) *ℤ x ≡ a *ℤ x +ℤ b *ℤ x +ℤ c *ℤ x
        spread a b c x = simp ring_laws (omega (arith, linear))

    joined : (a b c x y z : ℤ) → a ≡ x → b ≡ y → c ≡ z → a +ℤ b +ℤ c ≡ x +ℤ y +ℤ z
    joined a b c x y z e f g = omega (arith, ints)
