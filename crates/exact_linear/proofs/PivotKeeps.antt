-- A pivot of a tableau is the tableau of the basis with column s in row r. The new entries are the determinants that exactness
-- gives, by taking the old denominator away; the spans follow from the old ones, by the old denominator again.
use Rattle.std.proofs.Common.{◌≡◌, ◌≢◌, ℕ, ◌<◌, ℤ, pos, ◌+ℤ◌, ◌-ℤ◌, ◌*ℤ◌, sym, ap, ◌∙◌, ⊎_elim, arith}
use Rattle.std.proofs.lemmas.Bool.{cases_eq}
use Rattle.exact_algebra.proofs.Families.{put, put-same, put-other, put-put}
use Rattle.exact_algebra.proofs.Order.{cancel_positive}
use Rattle.exact_algebra.proofs.RingLaws.{*ℤ_comm}
use Rattle.exact_algebra.proofs.RingTactic.{ring_laws, linear}
use Rattle.exact_algebra.proofs.Sums.{sum_to-scale, sum_to-changed, sum_to-difference}
use Rattle.exact_algebra.specs.Sums.{sum_to}
use Rattle.exact_linear.proofs.Determinant.{det-equal, put_cases}
use Rattle.exact_linear.proofs.Exactness.{entered, numerator_exact}
use Rattle.exact_linear.proofs.Turns.{turn_of}
use Rattle.exact_linear.specs.Determinant.{det}
use Rattle.exact_linear.specs.Pivot.{pivot_row, IsPivot}
use Rattle.exact_linear.specs.Tableau.{IsTableau, chosen}

-- A sum over the basic columns after a pivot, times the old denominator: of the old sums in columns j and s, and of the one
-- vector that is new. The entries of the sum are numbers or costs of the basic columns.
module _ (m n : ℕ) {den : ℤ} {matrix after : ℕ → ℕ → ℤ} (r s : ℕ) (in_rows : r < m) (in_columns : s < n) (pivot : IsPivot m n r s den matrix after) (old new : ℕ → ℤ) (others : (k : ℕ) → k ≢ r → new k ≡ old k) where
  pub pivoted_sum : (j : ℕ) → j < n →
      den *ℤ sum_to m (λ k. new k *ℤ after k j)
      ≡ pivot_row matrix r s s *ℤ sum_to m (λ k. old k *ℤ matrix k j) -ℤ pivot_row matrix r s j *ℤ sum_to m (λ k. old k *ℤ matrix k s) +ℤ den *ℤ (new r *ℤ pivot_row matrix r s j)
  pivoted_sum j l =
      let p = pivot_row matrix r s s in
      let q = pivot_row matrix r s j in
      let before = λ (k : ℕ). p *ℤ (old k *ℤ matrix k j) -ℤ q *ℤ (old k *ℤ matrix k s) in
      let changed = sum_to-changed m r (λ k. den *ℤ (new k *ℤ after k j)) before in_rows
      (λ k h d. rw (others k d) (elsewhere den (old k) (after k j) (matrix k j) p (matrix k s) q (pivot.divides k j h d l))) in
      let apart = sum_to-difference m (λ k. p *ℤ (old k *ℤ matrix k j)) (λ k. q *ℤ (old k *ℤ matrix k s)) in
      let first = sum_to-scale m p (λ k. old k *ℤ matrix k j) in
      let second = sum_to-scale m q (λ k. old k *ℤ matrix k s) in
      let scaled = sum_to-scale m den (λ k. new k *ℤ after k j) in
      let here = own (old r) in
      let kept = ap (λ x. den *ℤ (new r *ℤ x)) (pivot.keeps j l) in
      omega (arith, linear)
    where
      elsewhere : (d v a t p u q : ℤ) → a *ℤ d ≡ t *ℤ p -ℤ u *ℤ q → d *ℤ (v *ℤ a) ≡ p *ℤ (v *ℤ t) -ℤ q *ℤ (v *ℤ u)
      elsewhere d v a t p u q is = let given = simp ring_laws at (ap (λ y. v *ℤ y) is) in simp ring_laws (omega (arith, linear))

      turned_across : (τ v x y : ℤ) → τ *ℤ x *ℤ (v *ℤ y) -ℤ τ *ℤ y *ℤ (v *ℤ x) ≡ pos 0
      turned_across τ v x y = simp ring_laws (omega (arith, linear))

      own : (v : ℤ) → pivot_row matrix r s s *ℤ (v *ℤ matrix r j) -ℤ pivot_row matrix r s j *ℤ (v *ℤ matrix r s) ≡ pos 0
      own v = let turn = turn_of (matrix r s) in rw (turn.turns (matrix r s), turn.turns (matrix r j)) (turned_across turn.by v (matrix r s) (matrix r j))

module _ {m n : ℕ} {columns : ℕ → ℕ → ℤ} {basis : ℕ → ℕ} {den : ℤ} {matrix after : ℕ → ℕ → ℤ} (t : IsTableau m n columns basis den matrix) (r s : ℕ) (in_rows : r < m) (in_columns : s < n) (other : matrix r s ≢ pos 0) (pivot : IsPivot m n r s den matrix after) where
  -- The basic columns after the pivot are those of the basis after it.
  entered_is : (k : ℕ) → entered t r s in_rows in_columns k ≡ chosen columns (put basis r s) k
  entered_is k = put_cases (λ b. entered t r s in_rows in_columns k ≡ columns b) basis r k s (λ e. rw e (put-same (chosen columns basis) r (columns s))) (λ d. put-other (chosen columns basis) r (columns s) k d)

  entered_with : (i : ℕ) (v : ℕ → ℤ) → det m (put (entered t r s in_rows in_columns) i v) ≡ det m (put (chosen columns (put basis r s)) i v)
  entered_with i v = ap (λ W. det m (put W i v)) (λ d. λ k. entered_is k d)

  new_sign : ℤ
  new_sign = (turn_of (matrix r s)).by *ℤ t.sign

  new_sign_is : new_sign *ℤ new_sign ≡ pos 1
  unfolding new_sign
  new_sign_is = product (turn_of (matrix r s)).by t.sign (turn_of (matrix r s)).by_is t.sign_is
    where
      product : (a b : ℤ) → a *ℤ a ≡ pos 1 → b *ℤ b ≡ pos 1 → a *ℤ b *ℤ (a *ℤ b) ≡ pos 1
      product a b first second = turn_about a b ∙ (rw (first, second))
        where
          turn_about : (x y : ℤ) → x *ℤ y *ℤ (x *ℤ y) ≡ x *ℤ x *ℤ (y *ℤ y)
          turn_about x y = simp ring_laws (omega (arith, linear))

  new_entries : (i j : ℕ) → i < m → j < n → after i j ≡ new_sign *ℤ det m (put (chosen columns (put basis r s)) i (columns j))
  unfolding new_sign
  new_entries i j h l = ⊎_elim at_r elsewhere (cases_eq i r)
    where
      at_r : i ≡ r → after i j ≡ (turn_of (matrix r s)).by *ℤ t.sign *ℤ det m (put (chosen columns (put basis r s)) i (columns j))
      at_r e =
          let same = det-equal m (put (entered t r s in_rows in_columns) r (columns j)) (put (chosen columns basis) r (columns j)) (λ k p. put-put (chosen columns basis) r (columns s) (columns j) k) in
          rw (e, pivot.keeps j l, (turn_of (matrix r s)).turns (matrix r j), t.entries r j in_rows l, ← entered_with r (columns j), same) (grouped (turn_of (matrix r s)).by t.sign (det m (put (chosen columns basis) r (columns j))))
        where
          grouped : (a b c : ℤ) → a *ℤ (b *ℤ c) ≡ a *ℤ b *ℤ c
          grouped a b c = simp ring_laws (omega (arith, linear))

      elsewhere : i ≢ r → after i j ≡ (turn_of (matrix r s)).by *ℤ t.sign *ℤ det m (put (chosen columns (put basis r s)) i (columns j))
      elsewhere d =
          cancel_positive den t.positive (*ℤ_comm den (after i j) ∙ (pivot.divides i j h d l ∙ (sym (numerator_exact t r s in_rows in_columns i j h d l) ∙ grouped (turn_of (matrix r s)).by t.sign (det m (put (entered t r s in_rows in_columns) i (columns j))))))
          ∙ ap (λ x. (turn_of (matrix r s)).by *ℤ t.sign *ℤ x) (entered_with i (columns j))
        where
          grouped : (a b c : ℤ) → a *ℤ (b *ℤ c) *ℤ den ≡ den *ℤ (a *ℤ b *ℤ c)
          grouped a b c = simp ring_laws (omega (arith, linear))

  new_whole : pivot_row matrix r s s ≡ new_sign *ℤ det m (chosen columns (put basis r s))
  unfolding new_sign
  new_whole =
      let turn = turn_of (matrix r s) in
      turn.turns (matrix r s) ∙ (ap (λ x. turn.by *ℤ x) (t.entries r s in_rows in_columns) ∙ (grouped turn.by t.sign (det m (entered t r s in_rows in_columns)) ∙ ap (λ W. turn.by *ℤ t.sign *ℤ det m W) (λ d. λ k. entered_is k d)))
    where
      grouped : (a b c : ℤ) → a *ℤ (b *ℤ c) ≡ a *ℤ b *ℤ c
      grouped a b c = simp ring_laws (omega (arith, linear))

  new_spans : (j c : ℕ) → j < n → c < m → sum_to m (λ k. columns (put basis r s k) c *ℤ after k j) ≡ pivot_row matrix r s s *ℤ columns j c
  new_spans j c l h =
      let sums = pivoted_sum m n r s in_rows in_columns pivot (λ k. columns (basis k) c) (λ k. columns (put basis r s k) c) (λ k d. ap (λ b. columns b c) (put-other basis r s k d)) j l in
      let at_r = ap (λ b. columns b c) (put-same basis r s) in
      cancel_positive den t.positive (remaining den (sum_to m (λ k. columns (put basis r s k) c *ℤ after k j)) (pivot_row matrix r s s) (pivot_row matrix r s j) (sum_to m (λ k. columns (basis k) c *ℤ matrix k j)) (sum_to m (λ k. columns (basis k) c *ℤ matrix k s)) (columns (put basis r s r) c) (columns j c) (columns s c) (t.spans j c l h) (t.spans s c in_columns h) at_r sums)
    where
      remaining : (d f p q u v w a b : ℤ) → u ≡ d *ℤ a → v ≡ d *ℤ b → w ≡ b → d *ℤ f ≡ p *ℤ u -ℤ q *ℤ v +ℤ d *ℤ (w *ℤ q) → d *ℤ f ≡ d *ℤ (p *ℤ a)
      remaining d f p q u v w a b first second third sums = let given = simp ring_laws at (rw (first, second, third) at sums) in omega (arith, linear)

  -- A pivot keeps the record.
  pub pivot_keeps : IsTableau m n columns (put basis r s) (pivot_row matrix r s s) after
  pivot_keeps = record {
    sign = new_sign;
    sign_is = new_sign_is;
    positive = (turn_of (matrix r s)).positive other;
    within = λ k h. put_cases (λ b. b < n) basis r k s (λ e. in_columns) (λ d. t.within k h);
    whole = new_whole;
    entries = new_entries;
    spans = new_spans;
  }
