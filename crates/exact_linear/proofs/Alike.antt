-- A tableau reads its basis and entries only within m rows and n columns, so that lists which agree there with functions do as
-- well: what holds of one family holds of another that is equal at each index.
use Rattle.std.proofs.Common.{List, length, get_or, set, get_or-set_same, get_or-set_other, ◌≡◌, ◌≢◌, ⊎_elim, ℕ, ◌<◌, ◌≤◌, ℤ, pos, ◌+ℤ◌, ◌-ℤ◌, ◌*ℤ◌, ◌<ℤ◌, refl, sym, ap, ap₂, subst, ◌∙◌, arith}
use Rattle.std.proofs.lemmas.Bool.{cases_eq}
use Rattle.exact_algebra.proofs.Families.{put, put-same, put-other}
use Rattle.exact_algebra.proofs.Sums.{sum_to-same}
use Rattle.exact_linear.proofs.Determinant.{Agree, agree_put, det-same}
use Rattle.exact_linear.specs.Pivot.{turned, pivot_row, IsPivot}
use Rattle.exact_linear.specs.Tableau.{IsTableau, IsCostRow, IsTableauOf, chosen}

module _ {m n : ℕ} {basis basis' : ℕ → ℕ} {den den' : ℤ} {matrix matrix' : ℕ → ℕ → ℤ}
    (one_basis : (k : ℕ) → k < m → basis' k ≡ basis k) (one_den : den' ≡ den) (one_matrix : (i j : ℕ) → i < m → j < n → matrix' i j ≡ matrix i j) where
  pub same_tableau : {columns : ℕ → ℕ → ℤ} → IsTableau m n columns basis den matrix → IsTableau m n columns basis' den' matrix'
  same_tableau {columns} t = record {
    sign = t.sign;
    sign_is = t.sign_is;
    positive = subst (λ d. pos 0 <ℤ d) (sym one_den) t.positive;
    within = λ k h. subst (λ b. b < n) (sym (one_basis k h)) (t.within k h);
    whole = one_den ∙ (t.whole ∙ ap (λ d. t.sign *ℤ d) (sym (det-same m (chosen columns basis') (chosen columns basis) agree)));
    entries = λ i j h l. one_matrix i j h l ∙ (t.entries i j h l ∙ ap (λ d. t.sign *ℤ d) (sym (det-same m (put (chosen columns basis') i (columns j)) (put (chosen columns basis) i (columns j)) (agree_put m (chosen columns basis') (chosen columns basis) i (columns j) (columns j) agree (λ c p. refl)))));
    spans = λ j c l h. sum_to-same m (λ k. columns (basis' k) c *ℤ matrix' k j) (λ k. columns (basis k) c *ℤ matrix k j) (λ k p. ap₂ (λ b x. columns b c *ℤ x) (one_basis k p) (one_matrix k j p l)) ∙ (t.spans j c l h ∙ ap (λ d. d *ℤ columns j c) (sym one_den));
  }
    where
      agree : Agree m (chosen columns basis') (chosen columns basis)
      agree = record { at = λ k c h l. ap (λ b. columns b c) (one_basis k h) }

  pub same_costs : {costs row row' : ℕ → ℤ} → ((j : ℕ) → j < n → row' j ≡ row j) → IsCostRow m n costs basis den matrix row → IsCostRow m n costs basis' den' matrix' row'
  same_costs {costs} {row} {row'} one_row z = record { at = λ j l. ap₂ (λ x y. x +ℤ y) (one_row j l) (sum_to-same m (λ k. costs (basis' k) *ℤ matrix' k j) (λ k. costs (basis k) *ℤ matrix k j) (λ k h. ap₂ (λ b x. costs b *ℤ x) (one_basis k h) (one_matrix k j h l))) ∙ (z.at j l ∙ ap (λ d. d *ℤ costs j) (sym one_den)) }

-- The same of the whole matrix.
pub same_whole : {m h n : ℕ} {start : ℕ → ℕ → ℤ} {basis basis' : ℕ → ℕ} {den den' : ℤ} {matrix matrix' : ℕ → ℕ → ℤ} → m ≤ h →
    ((k : ℕ) → k < m → basis' k ≡ basis k) → den' ≡ den → ((i j : ℕ) → i < h → j < n → matrix' i j ≡ matrix i j) → IsTableauOf m h n start basis den matrix → IsTableauOf m h n start basis' den' matrix'
same_whole {m} inside one_basis one_den one_matrix t = record {
  program = same_tableau one_basis one_den (λ i j p l. one_matrix i j (omega arith) l) t.program;
  costs = λ i low high. same_costs one_basis one_den (λ k j p l. one_matrix k j (omega arith) l) (λ j l. one_matrix i j high l) (t.costs i low high);
}

-- The pivot reads and makes the entries within h rows and n columns.
pub same_pivot : {h n r s : ℕ} {den : ℤ} {matrix matrix' after after' : ℕ → ℕ → ℤ} → r < h → s < n → ((i j : ℕ) → i < h → j < n → matrix' i j ≡ matrix i j) → ((i j : ℕ) → i < h → j < n → after' i j ≡ after i j) →
    IsPivot h n r s den matrix after → IsPivot h n r s den matrix' after'
same_pivot {h} {n} {r} {s} {den} {matrix} {matrix'} {after} {after'} in_rows in_columns before later pivot = record {
  keeps = λ j l. later r j in_rows l ∙ (pivot.keeps j l ∙ sym (one_row j l));
  divides = λ i j p d l. ap (λ x. x *ℤ den) (later i j p l) ∙ (pivot.divides i j p d l ∙ sym (ap₂ (λ x y. x -ℤ y) (ap₂ (λ x y. x *ℤ y) (before i j p l) (one_row s in_columns)) (ap₂ (λ x y. x *ℤ y) (before i s p in_columns) (one_row j l))));
}
  where
    one_row : (j : ℕ) → j < n → pivot_row matrix' r s j ≡ pivot_row matrix r s j
    one_row j l = ap₂ turned (before r s in_rows in_columns) (before r j in_rows l)

-- A list with its element r changed, as a family.
pub list_put : {A : Type 0} (xs : List A) (r : ℕ) (v d : A) → r < length xs → (k : ℕ) → get_or (set xs r v) k d ≡ put (λ i. get_or xs i d) r v k
list_put xs r v d h k = ⊎_elim
    (λ (e : k ≡ r). rw (e, put-same (λ i. get_or xs i d) r v) (get_or-set_same xs r v d h))
    (λ (e : k ≢ r). get_or-set_other xs r k v d e ∙ sym (put-other (λ i. get_or xs i d) r v k e))
    (cases_eq k r)
