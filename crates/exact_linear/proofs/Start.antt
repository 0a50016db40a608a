-- The start is the tableau of its artificial columns, the unit vectors: their determinant is 1, and each entry is the one
-- coordinate that a vector has in its place.
use Rattle.std.proofs.Common.{◌≡◌, ◌≢◌, ℕ, ◌<◌, ℤ, pos, ◌*ℤ◌, refl, sym, ap, ap₂, ◌∙◌, arith}
use Rattle.std.proofs.lemmas.Int.{ints}
use Rattle.exact_algebra.proofs.Families.{put, put-same, put-other, put-own}
use Rattle.exact_algebra.proofs.RingLaws.{zero-*ℤ}
use Rattle.exact_algebra.proofs.RingTactic.{linear}
use Rattle.exact_algebra.proofs.Sums.{sum_to-same, sum_to-one, sum_to-nothing}
use Rattle.exact_algebra.specs.Sums.{sum_to}
use Rattle.exact_linear.proofs.Determinant.{Agree, agree_put, det-same, det-equal, det-alike, det-unit, unit, unit-same, unit-other}
use Rattle.exact_linear.proofs.Mixtures.{det-mixture}
use Rattle.exact_linear.specs.Determinant.{det}
use Rattle.exact_linear.specs.Tableau.{IsTableau, IsCostRow, chosen}

-- A vector is the sum of the unit vectors times its coordinates.
pub by_units : (m c : ℕ) (v : ℕ → ℤ) → c < m → sum_to m (λ k. unit k c *ℤ v k) ≡ v c
by_units m c v h = sum_to-one m c (λ k. unit k c *ℤ v k) h (λ k l d. ap (λ x. x *ℤ v k) (unit-other k c d) ∙ zero-*ℤ (v k)) ∙ (rw (unit-same c) (omega (arith, linear)))

-- The determinant of the unit vectors with a vector in the place i is its coordinate i.
pub det-coordinate : (m i : ℕ) (v : ℕ → ℤ) → i < m → det m (put unit i v) ≡ v i
det-coordinate m i v h =
    let mixture = det-mixture m i unit unit v m (pos 1) v h (λ c l. by_units m c v l ∙ omega (arith, linear)) in
    let only = sum_to-one m i (λ k. det m (put unit i (unit k)) *ℤ v k) h (λ k l d. ap (λ x. x *ℤ v k) (twice k l d) ∙ zero-*ℤ (v k)) in
    let own = det-equal m (put unit i (unit i)) unit (λ k l. put-own unit i k) ∙ det-unit m in
    let scaled = ap (λ x. x *ℤ v i) own in
    omega (arith, linear)
  where
    twice : (k : ℕ) → k < m → k ≢ i → det m (put unit i (unit k)) ≡ pos 0
    twice k l d = det-alike m i k (put unit i (unit k)) h l (λ e. d (sym e)) (put-same unit i (unit k) ∙ sym (put-other unit i (unit k) k d))

-- The basis of artificial columns, whose vectors are the unit vectors.
pub start_is : (m n : ℕ) (columns : ℕ → ℕ → ℤ) (basis : ℕ → ℕ) (matrix : ℕ → ℕ → ℤ) → ((k : ℕ) → k < m → basis k < n) → ((k c : ℕ) → k < m → c < m → columns (basis k) c ≡ unit k c) → ((i j : ℕ) → i < m → j < n → matrix i j ≡ columns j i) →
    IsTableau m n columns basis (pos 1) matrix
start_is m n columns basis matrix within artificial rows = record {
  sign = pos 1;
  sign_is = refl;
  positive = omega (arith, ints);
  within = within;
  whole = sym (ap (λ x. pos 1 *ℤ x) (det-same m (chosen columns basis) unit agree ∙ det-unit m));
  entries = λ i j h l. rows i j h l ∙ sym (ap (λ x. pos 1 *ℤ x) (det-same m (put (chosen columns basis) i (columns j)) (put unit i (columns j)) (agree_put m (chosen columns basis) unit i (columns j) (columns j) agree (λ c p. refl)) ∙ det-coordinate m i (columns j) h) ∙ omega (arith, linear));
  spans = λ j c l h. sum_to-same m (λ k. columns (basis k) c *ℤ matrix k j) (λ k. unit k c *ℤ columns j k) (λ k p. ap₂ (λ x y. x *ℤ y) (artificial k c p h) (rows k j p l)) ∙ (by_units m c (columns j) h ∙ omega (arith, linear));
}
  where
    agree : Agree m (chosen columns basis) unit
    agree = record { at = λ k c h l. artificial k c h l }

-- A row of costs that are 0 in the artificial columns is a row of reduced costs.
pub start_costs : (m n : ℕ) (costs : ℕ → ℤ) (basis : ℕ → ℕ) (matrix : ℕ → ℕ → ℤ) → ((k : ℕ) → k < m → costs (basis k) ≡ pos 0) → IsCostRow m n costs basis (pos 1) matrix costs
start_costs m n costs basis matrix artificial = record {
  at = λ j l.
      let nothing = sum_to-nothing m (λ k. costs (basis k) *ℤ matrix k j) (λ k h. ap (λ x. x *ℤ matrix k j) (artificial k h) ∙ zero-*ℤ (matrix k j)) in
      omega (arith, linear);
}
