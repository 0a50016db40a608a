-- What a pivot divides is the denominator times a whole number. In the family with column s in the place r, the span of
-- column j is put into the place i: of the determinants that it adds up all but two have equal vectors, one is the new
-- denominator, and one is an exchange. So the numerator is the denominator times a determinant, an identity.
use Rattle.std.proofs.Common.{◌≡◌, ◌≢◌, ℕ, ◌<◌, ℤ, ◌+ℤ◌, ◌-ℤ◌, ◌*ℤ◌, neg_ℤ, sym, ap, ◌∙◌, arith}
use Rattle.exact_algebra.proofs.Families.{put, put-same, put-other, put-own}
use Rattle.exact_algebra.proofs.RingLaws.{zero-*ℤ}
use Rattle.exact_algebra.proofs.RingTactic.{ring_laws, linear}
use Rattle.exact_algebra.proofs.Sums.{sum_to-two}
use Rattle.exact_linear.proofs.Determinant.{det-equal, det-alike, det-exchanged}
use Rattle.exact_linear.proofs.Mixtures.{det-mixture}
use Rattle.exact_linear.proofs.Turns.{turn_of}
use Rattle.exact_linear.specs.Determinant.{det}
use Rattle.exact_linear.specs.Pivot.{numerator}
use Rattle.exact_linear.specs.Tableau.{IsTableau, chosen}

module _ {m n : ℕ} {columns : ℕ → ℕ → ℤ} {basis : ℕ → ℕ} {den : ℤ} {matrix : ℕ → ℕ → ℤ} (t : IsTableau m n columns basis den matrix) (r s : ℕ) (in_rows : r < m) (in_columns : s < n) where
  -- The basic columns after the pivot.
  abbrev pub entered : ℕ → ℕ → ℤ
  entered = put (chosen columns basis) r (columns s)

  two_left : (i j : ℕ) → i < m → i ≢ r → j < n → matrix i j *ℤ det m entered -ℤ matrix r j *ℤ det m (put (chosen columns basis) i (columns s)) ≡ den *ℤ det m (put entered i (columns j))
  two_left i j h apart l =
      let V = chosen columns basis in
      let spanned = det-mixture m i entered V (λ k. matrix k j) m den (columns j) h (λ c p. t.spans j c l p) in
      let two = sum_to-two m i r (λ k. det m (put entered i (V k)) *ℤ matrix k j) h in_rows apart
      (λ k p d e. ap (λ x. x *ℤ matrix k j) (det-alike m i k (put entered i (V k)) h p (λ f. d (sym f)) (put-same entered i (V k) ∙ sym (put-other entered i (V k) k d ∙ put-other V r (columns s) k e))) ∙ zero-*ℤ (matrix k j)) in
      let at_i = det-equal m (put entered i (V i)) entered (λ k p. ap (λ w. put entered i w k) (sym (put-other V r (columns s) i apart)) ∙ put-own entered i k) in
      let at_r = det-exchanged m r i V (columns s) (V r) in_rows h (λ e. apart (sym e))
      ∙ ap neg_ℤ (det-equal m (put (put V r (V r)) i (columns s)) (put V i (columns s)) (λ k p. put_into V i k)) in
      remaining (matrix i j) (matrix r j) (det m entered) (det m (put V i (columns s))) (det m (put entered i (V i))) (det m (put entered i (V r))) (den *ℤ det m (put entered i (columns j))) at_i at_r (sym two ∙ spanned)
    where
      put_into : (V : ℕ → ℕ → ℤ) (i k : ℕ) → put (put V r (V r)) i (columns s) k ≡ put V i (columns s) k
      put_into V i k = ap (λ W. put W i (columns s) k) (λ d. λ q. put-own V r q d)

      remaining : (a b x y u v w : ℤ) → u ≡ x → v ≡ neg_ℤ y → u *ℤ a +ℤ v *ℤ b ≡ w → a *ℤ x -ℤ b *ℤ y ≡ w
      remaining a b x y u v w first second third = let given = simp ring_laws at (rw (first, second) at third) in omega (arith, linear)

  -- The entry (i, j) after the pivot.
  abbrev pub quotient : ℕ → ℕ → ℤ
  quotient i j = (turn_of (matrix r s)).by *ℤ (t.sign *ℤ det m (put entered i (columns j)))

  -- Each numerator is the old denominator times a whole number.
  pub numerator_exact : (i j : ℕ) → i < m → i ≢ r → j < n → quotient i j *ℤ den ≡ numerator matrix r s i j
  numerator_exact i j h apart l =
      let turn = turn_of (matrix r s) in
      by_signs turn.by t.sign den (matrix i j) (matrix r j) (det m entered) (det m (put (chosen columns basis) i (columns s))) (det m (put entered i (columns j)))
      (turn.turns (matrix r s) ∙ ap (λ x. turn.by *ℤ x) (t.entries r s in_rows in_columns)) (turn.turns (matrix r j)) (t.entries i s h in_columns) (two_left i j h apart l)
    where
      signs_out : (τ σ d a b x y D : ℤ) → a *ℤ x -ℤ b *ℤ y ≡ d *ℤ D → τ *ℤ (σ *ℤ D) *ℤ d ≡ a *ℤ (τ *ℤ (σ *ℤ x)) -ℤ σ *ℤ y *ℤ (τ *ℤ b)
      signs_out τ σ d a b x y D is = let given = simp ring_laws at (ap (λ q. τ *ℤ (σ *ℤ q)) is) in simp ring_laws (omega (arith, linear))

      by_signs : {p q u : ℤ} (τ σ d a b x y D : ℤ) → p ≡ τ *ℤ (σ *ℤ x) → q ≡ τ *ℤ b → u ≡ σ *ℤ y → a *ℤ x -ℤ b *ℤ y ≡ d *ℤ D → τ *ℤ (σ *ℤ D) *ℤ d ≡ a *ℤ p -ℤ u *ℤ q
      by_signs τ σ d a b x y D corner across side is = rw (corner, across, side) (signs_out τ σ d a b x y D is)
