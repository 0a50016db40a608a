-- What a tableau says of its columns: a basic column is the denominator in its row and 0 elsewhere, so no column is basic
-- twice; and a relation between columns of the start is one between columns of the tableau and of each cost row.
use Rattle.std.proofs.Common.{◌≡◌, ◌≢◌, ℕ, ◌<◌, ℤ, pos, ◌+ℤ◌, ◌-ℤ◌, ◌*ℤ◌, sym, ap, ◌∙◌, ⊎_elim, arith}
use Rattle.std.proofs.lemmas.Bool.{cases_eq}
use Rattle.std.proofs.lemmas.Int.{ints}
use Rattle.exact_algebra.proofs.Families.{put, put-same, put-other, put-own}
use Rattle.exact_algebra.proofs.Matrices.{row_matrix_column}
use Rattle.exact_algebra.proofs.RingLaws.{*ℤ_assoc, *ℤ_left_comm, *ℤ-zero}
use Rattle.exact_algebra.proofs.RingTactic.{ring_laws, linear}
use Rattle.exact_algebra.proofs.Sums.{sum_to-same, sum_to-add, sum_to-scale}
use Rattle.exact_algebra.specs.Sums.{sum_to}
use Rattle.exact_linear.proofs.Determinant.{det-equal, det-alike}
use Rattle.exact_linear.proofs.Mixtures.{det-mixture}
use Rattle.exact_linear.specs.Determinant.{det}
use Rattle.exact_linear.specs.Tableau.{IsTableau, IsCostRow, chosen}

module _ {m n : ℕ} {columns : ℕ → ℕ → ℤ} {basis : ℕ → ℕ} {den : ℤ} {matrix : ℕ → ℕ → ℤ} where
  pub basic_same : IsTableau m n columns basis den matrix → (k : ℕ) → k < m → matrix k (basis k) ≡ den
  basic_same t k h =
      let own = det-equal m (put (chosen columns basis) k (columns (basis k))) (chosen columns basis) (λ i l. put-own (chosen columns basis) k i) in
      t.entries k (basis k) h (t.within k h) ∙ (ap (λ x. t.sign *ℤ x) own ∙ sym t.whole)

  pub basic_other : IsTableau m n columns basis den matrix → (i k : ℕ) → i < m → k < m → i ≢ k → matrix i (basis k) ≡ pos 0
  basic_other t i k h l apart =
      let twice = det-alike m i k (put (chosen columns basis) i (columns (basis k))) h l apart (put-same (chosen columns basis) i (columns (basis k)) ∙ sym (put-other (chosen columns basis) i (columns (basis k)) k (λ e. apart (sym e)))) in
      t.entries i (basis k) h (t.within k l) ∙ (ap (λ x. t.sign *ℤ x) twice ∙ *ℤ-zero t.sign)

  -- No column is basic in two rows.
  pub basic_once : IsTableau m n columns basis den matrix → (k l : ℕ) → k < m → l < m → basis k ≡ basis l → k ≡ l
  basic_once t k l h p same = ⊎_elim (λ (e : k ≡ l). e) (λ (d : k ≢ l). absurd (clash d)) (cases_eq k l)
    where
      clash : k ≢ l → ⊥
      clash d =
          let here = basic_same t k h in
          let there = basic_other t k l h p d in
          let one = ap (λ b. matrix k b) same in
          let positive = t.positive in
          omega (arith, ints)

  -- A relation between columns of the start.
  pub relation : IsTableau m n columns basis den matrix → (K : ℕ) (named : ℕ → ℕ) (x : ℕ → ℤ) (e : ℤ) (s : ℕ) → ((k : ℕ) → k < K → named k < n) → s < n →
      ((c : ℕ) → c < m → sum_to K (λ k. columns (named k) c *ℤ x k) ≡ e *ℤ columns s c) →
      (i : ℕ) → i < m → sum_to K (λ k. matrix i (named k) *ℤ x k) ≡ e *ℤ matrix i s
  relation t K named x e s within h related i l =
      let V = chosen columns basis in
      sum_to-same K (λ k. matrix i (named k) *ℤ x k) (λ k. t.sign *ℤ (det m (put V i (columns (named k))) *ℤ x k)) (λ k p. ap (λ y. y *ℤ x k) (t.entries i (named k) l (within k p)) ∙ *ℤ_assoc t.sign (det m (put V i (columns (named k)))) (x k))
      ∙ (sum_to-scale K t.sign (λ k. det m (put V i (columns (named k))) *ℤ x k)
      ∙ (ap (λ y. t.sign *ℤ y) (det-mixture m i V (λ k. columns (named k)) x K e (columns s) l related)
      ∙ (*ℤ_left_comm t.sign e (det m (put V i (columns s))) ∙ ap (λ y. e *ℤ y) (sym (t.entries i s l h)))))

  -- The same of a cost row, where the start's costs are counted in.
  pub cost_relation : IsTableau m n columns basis den matrix → (costs row : ℕ → ℤ) → IsCostRow m n costs basis den matrix row → (K : ℕ) (named : ℕ → ℕ) (x : ℕ → ℤ) (e : ℤ) (s : ℕ) → ((k : ℕ) → k < K → named k < n) → s < n →
      ((c : ℕ) → c < m → sum_to K (λ k. columns (named k) c *ℤ x k) ≡ e *ℤ columns s c) →
      sum_to K (λ k. row (named k) *ℤ x k) ≡ den *ℤ sum_to K (λ k. costs (named k) *ℤ x k) +ℤ e *ℤ (row s -ℤ den *ℤ costs s)
  cost_relation t costs row z K named x e s within h related =
      let priced = λ (j : ℕ). sum_to m (λ i. costs (basis i) *ℤ matrix i j) in
      let crossed : sum_to K (λ k. priced (named k) *ℤ x k) ≡ e *ℤ priced s =
      row_matrix_column m K (λ i. costs (basis i)) (λ i k. matrix i (named k)) x
      ∙ (sum_to-same m (λ i. costs (basis i) *ℤ sum_to K (λ k. matrix i (named k) *ℤ x k)) (λ i. e *ℤ (costs (basis i) *ℤ matrix i s)) (λ i l. ap (λ y. costs (basis i) *ℤ y) (relation t K named x e s within h related i l) ∙ *ℤ_left_comm (costs (basis i)) e (matrix i s))
      ∙ sum_to-scale m e (λ i. costs (basis i) *ℤ matrix i s)) in
      let parted : sum_to K (λ k. row (named k) *ℤ x k) +ℤ sum_to K (λ k. priced (named k) *ℤ x k) ≡ den *ℤ sum_to K (λ k. costs (named k) *ℤ x k) =
      sym (sum_to-add K (λ k. row (named k) *ℤ x k) (λ k. priced (named k) *ℤ x k))
      ∙ (sum_to-same K (λ k. row (named k) *ℤ x k +ℤ priced (named k) *ℤ x k) (λ k. den *ℤ (costs (named k) *ℤ x k)) (λ k p. joined (row (named k)) (priced (named k)) (costs (named k)) (x k) (z.at (named k) (within k p)))
      ∙ sum_to-scale K den (λ k. costs (named k) *ℤ x k)) in
      gathered (sum_to K (λ k. row (named k) *ℤ x k)) (sum_to K (λ k. priced (named k) *ℤ x k)) (den *ℤ sum_to K (λ k. costs (named k) *ℤ x k)) (row s) (priced s) (den *ℤ costs s) crossed parted (z.at s h)
    where
      joined : (a b c y : ℤ) → a +ℤ b ≡ den *ℤ c → a *ℤ y +ℤ b *ℤ y ≡ den *ℤ (c *ℤ y)
      joined a b c y is = let given = simp ring_laws at (ap (λ q. q *ℤ y) is) in omega (arith, linear)

      gathered : (u v w a b c : ℤ) → v ≡ e *ℤ b → u +ℤ v ≡ w → a +ℤ b ≡ c → u ≡ w +ℤ e *ℤ (a -ℤ c)
      gathered u v w a b c first second third = let given = simp ring_laws at (ap (λ q. e *ℤ q) third) in simp ring_laws (omega (arith, linear))
