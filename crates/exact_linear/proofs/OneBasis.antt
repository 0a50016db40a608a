-- One basis has one tableau up to the order of its rows: the basic columns of the second are those of the first in another
-- order, so that all determinants have one sign, and since both denominators are positive that sign is 1.
use Rattle.std.proofs.Common.{◌≡◌, ◌≢◌, ◌⊎◌, ℕ, ◌<◌, ◌≤◌, ℤ, pos, negsuc, ◌+ℤ◌, ◌-ℤ◌, ◌*ℤ◌, ◌<ℤ◌, sym, ap, ap₂, ◌∙◌, ⊎_elim, inl, inr, arith}
use Rattle.std.proofs.lemmas.Bool.{cases_lt}
use Rattle.std.proofs.lemmas.Int.{ints}
use Rattle.exact_algebra.proofs.Families.{put, put-same, put-other}
use Rattle.exact_algebra.proofs.Order.{no_zero_divisors}
use Rattle.exact_algebra.proofs.RingTactic.{ring_laws, linear}
use Rattle.exact_algebra.proofs.Sums.{sum_to-same}
use Rattle.exact_linear.proofs.Determinant.{det-equal, put_cases}
use Rattle.exact_linear.proofs.Permutations.{IsPermutation, sign_of, sum_to-permuted}
use Rattle.exact_linear.proofs.Tableaus.{basic_once}
use Rattle.exact_linear.specs.Basis.{IsSameBasis}
use Rattle.exact_linear.specs.Determinant.{det}
use Rattle.exact_linear.specs.Tableau.{IsTableau, IsCostRow, chosen}

-- A sign that takes one positive number to another is 1.
sign_one : (τ d e : ℤ) → τ *ℤ τ ≡ pos 1 → pos 0 <ℤ d → pos 0 <ℤ e → e ≡ τ *ℤ d → τ ≡ pos 1
sign_one τ d e square over_d over_e is = ⊎_elim (λ (h : τ -ℤ pos 1 ≡ pos 0). omega (arith, ints)) other (no_zero_divisors (τ -ℤ pos 1) (τ +ℤ pos 1) (factors τ square))
  where
    factors : (x : ℤ) → x *ℤ x ≡ pos 1 → (x -ℤ pos 1) *ℤ (x +ℤ pos 1) ≡ pos 0
    factors x h = simp ring_laws (omega (arith, linear))

    other : τ +ℤ pos 1 ≡ pos 0 → τ ≡ pos 1
    other h = let minus : τ ≡ negsuc 0 = omega (arith, ints) in let turned = rw minus at is in absurd (omega (arith, linear))

module _ {m n : ℕ} {columns : ℕ → ℕ → ℤ} {basis basis' : ℕ → ℕ} {den den' : ℤ} {matrix matrix' : ℕ → ℕ → ℤ}
    (t : IsTableau m n columns basis den matrix) (u : IsTableau m n columns basis' den' matrix') (same : IsSameBasis m basis basis') where
  abbrev place_of : (k : ℕ) → (k < m) ⊎ (m ≤ k) → ℕ
  place_of k (inl h) = (same.back k h).0
  place_of k (inr h) = 0

  -- The row of the first basis that has the column of row k of the second.
  pub order : ℕ → ℕ
  order k = place_of k (cases_lt k m)

  order_at : (k : ℕ) → k < m → (order k < m) × (basis (order k) ≡ basis' k)
  unfolding order
  order_at k h = by (cases_lt k m)
    where
      by : (c : (k < m) ⊎ (m ≤ k)) → (place_of k c < m) × (basis (place_of k c) ≡ basis' k)
      by (inl l) = let found = same.back k l in (found.1, found.2)
      by (inr l) = absurd (omega arith)

  pub order_within : (k : ℕ) → k < m → order k < m
  order_within k h = (order_at k h).0

  pub order_is : (k : ℕ) → k < m → basis (order k) ≡ basis' k
  order_is k h = (order_at k h).1

  pub permutation : IsPermutation m order
  permutation = record { into = order_within; place = place }
    where
      place : (l : ℕ) → l < m → (k : ℕ) × (k < m) × (order k ≡ l)
      place l h = let found = same.forth l h in (found.0, found.1, basic_once t (order found.0) l (order_within found.0 found.1) h (order_is found.0 found.1 ∙ found.2))

  apart : (i k : ℕ) → i < m → k < m → i ≢ k → order i ≢ order k
  apart i k h l d e = d (basic_once u i k h l (sym (order_is i h) ∙ (ap basis e ∙ order_is k l)))

  -- The rows of the second tableau are those of the first, by one sign.
  one_sign : ℤ
  one_sign = u.sign *ℤ (sign_of m order permutation).by *ℤ t.sign

  squared : (a b c : ℤ) → a *ℤ a ≡ pos 1 → b *ℤ b ≡ pos 1 → c *ℤ c ≡ pos 1 → a *ℤ b *ℤ c *ℤ (a *ℤ b *ℤ c) ≡ pos 1
  squared a b c first second third = regrouped a b c ∙ (rw (first, second, third))
    where
      regrouped : (x y z : ℤ) → x *ℤ y *ℤ z *ℤ (x *ℤ y *ℤ z) ≡ x *ℤ x *ℤ (y *ℤ y *ℤ (z *ℤ z))
      regrouped x y z = simp ring_laws (omega (arith, linear))

  carried : {v w x : ℤ} (a b c : ℤ) (D : ℤ) → c *ℤ c ≡ pos 1 → v ≡ a *ℤ x → x ≡ b *ℤ D → w ≡ c *ℤ D → v ≡ a *ℤ b *ℤ c *ℤ w
  carried a b c D square first second third = rw (first, second, third) (sym (regrouped a b c D ∙ ap (λ y. y *ℤ (a *ℤ (b *ℤ D))) square ∙ omega (arith, linear)))
    where
      regrouped : (x y z v : ℤ) → x *ℤ y *ℤ z *ℤ (z *ℤ v) ≡ z *ℤ z *ℤ (x *ℤ (y *ℤ v))
      regrouped x y z v = simp ring_laws (omega (arith, linear))

  den_carried : den' ≡ one_sign *ℤ den
  unfolding one_sign
  den_carried =
      let signed = sign_of m order permutation in
      let moved = det-equal m (chosen columns basis') (λ k. chosen columns basis (order k)) (λ k h. ap columns (sym (order_is k h))) in
      carried u.sign signed.by t.sign (det m (chosen columns basis)) t.sign_is u.whole (moved ∙ signed.signs (chosen columns basis)) t.whole

  row_carried : (k j : ℕ) → k < m → j < n → matrix' k j ≡ one_sign *ℤ matrix (order k) j
  unfolding one_sign
  row_carried k j h l =
      let signed = sign_of m order permutation in
      let W = put (chosen columns basis) (order k) (columns j) in
      let moved = det-equal m (put (chosen columns basis') k (columns j)) (λ i. W (order i)) (λ i p.
      put_cases (λ v. v ≡ W (order i)) (chosen columns basis') k i (columns j) (λ e. sym (ap (λ x. W (order x)) e ∙ put-same (chosen columns basis) (order k) (columns j)))
      (λ d. sym (put-other (chosen columns basis) (order k) (columns j) (order i) (apart i k p h d) ∙ ap columns (order_is i p)))) in
      carried u.sign signed.by t.sign (det m W) t.sign_is (u.entries k j h l) (moved ∙ signed.signs W) (t.entries (order k) j (order_within k h) l)

  one_sign_is : one_sign ≡ pos 1
  unfolding one_sign
  one_sign_is = let signed = sign_of m order permutation in sign_one one_sign den den' (squared u.sign signed.by t.sign u.sign_is signed.by_is t.sign_is) t.positive u.positive den_carried

  -- One basis has one denominator.
  pub one_denominator : den' ≡ den
  one_denominator = den_carried ∙ (rw one_sign_is (omega (arith, linear)))

  row_same : (k j : ℕ) → k < m → j < n → matrix' k j ≡ matrix (order k) j
  row_same k j h l = row_carried k j h l ∙ (rw one_sign_is (omega (arith, linear)))

  -- The rows with one basic column are equal.
  pub one_row : (k l j : ℕ) → k < m → l < m → j < n → basis' k ≡ basis l → matrix' k j ≡ matrix l j
  one_row k l j h p q is = row_same k j h q ∙ ap (λ i. matrix i j) (basic_once t (order k) l (order_within k h) p (order_is k h ∙ is))

  -- Rows of reduced costs of the same costs are equal.
  pub one_cost_row : {costs row row' : ℕ → ℤ} → IsCostRow m n costs basis den matrix row → IsCostRow m n costs basis' den' matrix' row' → (j : ℕ) → j < n → row' j ≡ row j
  one_cost_row {costs} {row} {row'} y z j l =
      let priced = λ (k : ℕ). costs (basis k) *ℤ matrix k j in
      let sums = sum_to-same m (λ k. costs (basis' k) *ℤ matrix' k j) (λ k. priced (order k)) (λ k h. ap₂ (λ c e. c *ℤ e) (ap costs (sym (order_is k h))) (row_same k j h l)) ∙ sum_to-permuted m priced order permutation in
      let here = y.at j l in
      let there = z.at j l in
      let denominators = ap (λ d. d *ℤ costs j) one_denominator in
      omega (arith, linear)
