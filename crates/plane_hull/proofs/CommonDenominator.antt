-- Points over one denominator: each is taken as often as the product of the other denominators says.
use Rattle.std.proofs.Common.{◌≡◌, ◌≢◌, ◌⊎◌, inl, inr, ℕ, zero, suc, ◌<◌, cond, eqb, eq-eqb, ne_eqb, refl, sym, ◌∙◌, ap, ℤ, pos, ◌*ℤ◌, ◌<ℤ◌, ◌≤ℤ◌, arith}
use Rattle.std.proofs.lemmas.Bool.{cases_eq, cond-true, cond-false}
use Rattle.std.proofs.lemmas.Int.{ints}
use Rattle.exact_algebra.proofs.Order.{cancel_at_most, product_positive, times_at_most}
use Rattle.exact_algebra.proofs.RingTactic.{ring_laws}

weakly : (x : ℤ) → pos 0 <ℤ x → pos 0 ≤ℤ x
weakly x h = omega (arith, ints)

-- the product of the first n
unfoldable pub product_to : ℕ → (ℕ → ℤ) → ℤ
product_to zero f = pos 1
product_to (suc n) f = product_to n f *ℤ f n

-- the product of the first n without the one at k
unfoldable pub cofactor : ℕ → (ℕ → ℤ) → ℕ → ℤ
cofactor zero f k = pos 1
cofactor (suc n) f k = cond (eqb k n) (product_to n f) (cofactor n f k *ℤ f n)

at_last : (n : ℕ) (f : ℕ → ℤ) (k : ℕ) → k ≡ n → cofactor (suc n) f k ≡ product_to n f
unfolding cofactor
at_last n f k same = cond-true (eqb k n) (product_to n f) (cofactor n f k *ℤ f n) (eq-eqb k n same)

at_other : (n : ℕ) (f : ℕ → ℤ) (k : ℕ) → k ≢ n → cofactor (suc n) f k ≡ cofactor n f k *ℤ f n
unfolding cofactor
at_other n f k apart = cond-false (eqb k n) (product_to n f) (cofactor n f k *ℤ f n) (ne_eqb k n apart)

one_more : (n : ℕ) (f : ℕ → ℤ) → product_to (suc n) f ≡ product_to n f *ℤ f n
unfolding product_to
one_more n f = refl

pub product_over : (n : ℕ) (f : ℕ → ℤ) → ((k : ℕ) → k < n → pos 0 <ℤ f k) → pos 0 <ℤ product_to n f
unfolding product_to
product_over zero f over = omega (arith, ints)
product_over (suc n) f over = product_positive (product_over n f (λ k low. over k (omega arith))) (over n (omega arith))

exchanged : (a b c : ℤ) → a *ℤ b *ℤ c ≡ a *ℤ c *ℤ b
exchanged a b c = simp ring_laws refl

pub cofactor_times : (n : ℕ) (f : ℕ → ℤ) (k : ℕ) → k < n → cofactor n f k *ℤ f k ≡ product_to n f
cofactor_times zero f k low = absurd (omega arith)
cofactor_times (suc n) f k low = by (cases_eq k n) (λ below. cofactor_times n f k below)
  where
    by : (k ≡ n) ⊎ (k ≡ n → ⊥) → (k < n → cofactor n f k *ℤ f k ≡ product_to n f) → cofactor (suc n) f k *ℤ f k ≡ product_to (suc n) f
    by (inl same) before = ap (λ (x : ℤ). x *ℤ f k) (at_last n f k same) ∙ (ap (λ (i : ℕ). product_to n f *ℤ f i) same ∙ sym (one_more n f))
    by (inr apart) before =
        ap (λ (x : ℤ). x *ℤ f k) (at_other n f k apart)
        ∙ (exchanged (cofactor n f k) (f n) (f k) ∙ (ap (λ (x : ℤ). x *ℤ f n) (before (omega arith)) ∙ sym (one_more n f)))

pub cofactor_over : (n : ℕ) (f : ℕ → ℤ) (k : ℕ) → ((i : ℕ) → i < n → pos 0 <ℤ f i) → pos 0 <ℤ cofactor n f k
unfolding cofactor
cofactor_over zero f k over = omega (arith, ints)
cofactor_over (suc n) f k over = by (cases_eq k n) (cofactor_over n f k (λ i low. over i (omega arith)))
  where
    by : (k ≡ n) ⊎ (k ≡ n → ⊥) → pos 0 <ℤ cofactor n f k → pos 0 <ℤ cofactor (suc n) f k
    by (inl same) before = rw (at_last n f k same) (product_over n f (λ i low. over i (omega arith)))
    by (inr apart) before = rw (at_other n f k apart) (product_positive before (over n (omega arith)))

-- ---- from one denominator to another: r over d is at most s over e exactly where it is so over the common one

scaled : (m r d e g k : ℤ) → m *ℤ d ≡ g → g *ℤ (r *ℤ (e *ℤ k)) ≡ m *ℤ e *ℤ k *ℤ (r *ℤ d)
scaled m r d e g k whole = rw (← whole) (simp ring_laws refl)

pub common_at_most : (r s d e cof_d cof_e common k : ℤ) → (r *ℤ e) ≤ℤ (s *ℤ d) → cof_d *ℤ d ≡ common → cof_e *ℤ e ≡ common → pos 0 <ℤ common → pos 0 <ℤ cof_d → pos 0 <ℤ cof_e → pos 0 <ℤ k
    → (r *ℤ (cof_d *ℤ k)) ≤ℤ (s *ℤ (cof_e *ℤ k))
common_at_most r s d e cof_d cof_e common k low d_is e_is over d_over e_over k_over =
    cancel_at_most common over
    (rw (left, right) (times_at_most (cof_e *ℤ cof_d *ℤ k) (weakly _ (product_positive (product_positive e_over d_over) k_over)) low))
  where
    left : common *ℤ (r *ℤ (cof_d *ℤ k)) ≡ cof_e *ℤ cof_d *ℤ k *ℤ (r *ℤ e)
    left = scaled cof_e r e cof_d common k e_is

    right : common *ℤ (s *ℤ (cof_e *ℤ k)) ≡ cof_e *ℤ cof_d *ℤ k *ℤ (s *ℤ d)
    right = scaled cof_d s d cof_e common k d_is ∙ (simp ring_laws refl)
