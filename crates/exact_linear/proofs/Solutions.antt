-- A tableau has the solutions of its start: its rows are relations between the start's columns, and the basic columns times
-- its rows are the start's columns times the denominator. So pivots keep the solutions. The basic solution is one of them.
use Rattle.std.proofs.Common.{◌≡◌, ◌≢◌, ◌⊎◌, ℕ, ◌<◌, ◌≤◌, cond, eqb, eq-eqb, ne_eqb, ℤ, pos, ◌*ℤ◌, ◌≤ℤ◌, refl, sym, ap, ◌∙◌, ⊎_elim, inl, inr, arith}
use Rattle.std.proofs.lemmas.Bool.{cases_eq, cond-true, cond-false}
use Rattle.std.proofs.lemmas.Int.{ints}
use Rattle.exact_algebra.proofs.Matrices.{row_matrix_column}
use Rattle.exact_algebra.proofs.Order.{cancel_positive}
use Rattle.exact_algebra.proofs.RingLaws.{*ℤ_assoc, *ℤ_left_comm, *ℤ-zero}
use Rattle.exact_algebra.proofs.SumOrder.{sum_to_not_negative}
use Rattle.exact_algebra.proofs.Sums.{sum_to-same, sum_to-one, sum_to-nothing, sum_to-scale, sum_to-exchange}
use Rattle.exact_algebra.specs.Sums.{sum_to}
use Rattle.exact_linear.proofs.Tableaus.{relation, basic_once}
use Rattle.exact_linear.specs.Simplex.{IsFeasible, IsSolution, basic_value}
use Rattle.exact_linear.specs.Tableau.{IsTableau}

module _ {m n : ℕ} {columns : ℕ → ℕ → ℤ} {basis : ℕ → ℕ} {den : ℤ} {matrix : ℕ → ℕ → ℤ} (t : IsTableau m n columns basis den matrix) (q side : ℕ) (inside : q ≤ n) (right : side < n) where
  -- What solves the start's rows solves the tableau's rows.
  pub solves_rows : (total : ℤ) (x : ℕ → ℤ) → ((c : ℕ) → c < m → sum_to q (λ j. columns j c *ℤ x j) ≡ total *ℤ columns side c) → (i : ℕ) → i < m → sum_to q (λ j. matrix i j *ℤ x j) ≡ total *ℤ matrix i side
  solves_rows total x makes i h = relation t q (λ j. j) x total side (λ j l. omega arith) right makes i h

  -- And the other way round.
  pub rows_solve : (total : ℤ) (x : ℕ → ℤ) → ((i : ℕ) → i < m → sum_to q (λ j. matrix i j *ℤ x j) ≡ total *ℤ matrix i side) → (c : ℕ) → c < m → sum_to q (λ j. columns j c *ℤ x j) ≡ total *ℤ columns side c
  rows_solve total x rows c h =
      let y = λ (k : ℕ). columns (basis k) c in
      let by_columns : den *ℤ sum_to q (λ j. columns j c *ℤ x j) ≡ sum_to q (λ j. sum_to m (λ k. y k *ℤ matrix k j) *ℤ x j) =
      sym (sum_to-scale q den (λ j. columns j c *ℤ x j)) ∙ sum_to-same q (λ j. den *ℤ (columns j c *ℤ x j)) (λ j. sum_to m (λ k. y k *ℤ matrix k j) *ℤ x j) (λ j l. sym (*ℤ_assoc den (columns j c) (x j)) ∙ ap (λ e. e *ℤ x j) (sym (t.spans j c (omega arith) h))) in
      let by_rows = sum_to-same m (λ k. y k *ℤ sum_to q (λ j. matrix k j *ℤ x j)) (λ k. total *ℤ (y k *ℤ matrix k side)) (λ k l. ap (λ e. y k *ℤ e) (rows k l) ∙ *ℤ_left_comm (y k) total (matrix k side)) ∙ sum_to-scale m total (λ k. y k *ℤ matrix k side) in
      cancel_positive den t.positive (by_columns ∙ (row_matrix_column m q y matrix x ∙ (by_rows ∙ (ap (λ e. total *ℤ e) (t.spans side c right h) ∙ *ℤ_left_comm total den (columns side c)))))

-- Two tableaus of one start have the same solutions.
pub solutions_kept : {m n : ℕ} {columns : ℕ → ℕ → ℤ} {basis basis' : ℕ → ℕ} {den den' : ℤ} {matrix matrix' : ℕ → ℕ → ℤ} → IsTableau m n columns basis den matrix → IsTableau m n columns basis' den' matrix' → (q side : ℕ) → q ≤ n → side < n → (total : ℤ) (x : ℕ → ℤ) →
    ((i : ℕ) → i < m → sum_to q (λ j. matrix i j *ℤ x j) ≡ total *ℤ matrix i side) → (i : ℕ) → i < m → sum_to q (λ j. matrix' i j *ℤ x j) ≡ total *ℤ matrix' i side
solutions_kept t u q side inside right total x rows = solves_rows u q side inside right total x (rows_solve t q side inside right total x rows)

-- ---- solutions of basic columns alone, and the basic solution
module _ {m n : ℕ} {columns : ℕ → ℕ → ℤ} {basis : ℕ → ℕ} {den : ℤ} {matrix : ℕ → ℕ → ℤ} (t : IsTableau m n columns basis den matrix) (values : ℕ → ℤ) where
  value_term : (k j : ℕ) → basis k ≢ j → cond (eqb (basis k) j) (values k) (pos 0) ≡ pos 0
  value_term k j d = cond-false (eqb (basis k) j) (values k) (pos 0) (ne_eqb (basis k) j d)

  value_own : (k : ℕ) → cond (eqb (basis k) (basis k)) (values k) (pos 0) ≡ values k
  value_own k = cond-true (eqb (basis k) (basis k)) (values k) (pos 0) (eq-eqb (basis k) (basis k) refl)

  pub value_basic : (k : ℕ) → k < m → basic_value m basis values (basis k) ≡ values k
  unfolding basic_value
  value_basic k h = sum_to-one m k (λ l. cond (eqb (basis l) (basis k)) (values l) (pos 0)) h (λ l p d. value_term l (basis k) (λ e. d (basic_once t l k p h e))) ∙ value_own k

  pub value_other : (j : ℕ) → ((k : ℕ) → k < m → basis k ≢ j) → basic_value m basis values j ≡ pos 0
  unfolding basic_value
  value_other j free = sum_to-nothing m (λ k. cond (eqb (basis k) j) (values k) (pos 0)) (λ k h. value_term k j (free k h))

  -- A sum over the columns of the basic solution is one over its rows, where a column past the end has a value of 0.
  pub sum_basic : (q : ℕ) → ((k : ℕ) → k < m → (basis k < q) ⊎ (values k ≡ pos 0)) → (f : ℕ → ℤ) → sum_to q (λ j. f j *ℤ basic_value m basis values j) ≡ sum_to m (λ k. f (basis k) *ℤ values k)
  unfolding basic_value
  sum_basic q ends f =
      let term = λ (k j : ℕ). cond (eqb (basis k) j) (values k) (pos 0) in
      sum_to-same q (λ j. f j *ℤ sum_to m (λ k. term k j)) (λ j. sum_to m (λ k. f j *ℤ term k j)) (λ j l. sym (sum_to-scale m (f j) (λ k. term k j)))
      ∙ (sum_to-exchange q m (λ j k. f j *ℤ term k j)
      ∙ sum_to-same m (λ k. sum_to q (λ j. f j *ℤ term k j)) (λ k. f (basis k) *ℤ values k) (λ k h. by k (ends k h)))
    where
      other : (k j : ℕ) → j ≢ basis k → f j *ℤ cond (eqb (basis k) j) (values k) (pos 0) ≡ pos 0
      other k j d = ap (λ e. f j *ℤ e) (value_term k j (λ e. d (sym e))) ∙ *ℤ-zero (f j)

      by : (k : ℕ) → (basis k < q) ⊎ (values k ≡ pos 0) → sum_to q (λ j. f j *ℤ cond (eqb (basis k) j) (values k) (pos 0)) ≡ f (basis k) *ℤ values k
      by k (inl within) = sum_to-one q (basis k) (λ j. f j *ℤ cond (eqb (basis k) j) (values k) (pos 0)) within (λ j l d. other k j d) ∙ ap (λ e. f (basis k) *ℤ e) (value_own k)
      by k (inr none) = sum_to-nothing q (λ j. f j *ℤ cond (eqb (basis k) j) (values k) (pos 0)) (λ j l. ⊎_elim (λ (e : j ≡ basis k). rw (e, value_own k, none) (*ℤ-zero (f (basis k)))) (λ (d : j ≢ basis k). other k j d) (cases_eq j (basis k))) ∙ sym (ap (λ e. f (basis k) *ℤ e) none ∙ *ℤ-zero (f (basis k)))

  pub value_positive : ((k : ℕ) → k < m → pos 0 ≤ℤ values k) → (j : ℕ) → pos 0 ≤ℤ basic_value m basis values j
  unfolding basic_value
  value_positive over j = sum_to_not_negative m (λ k. cond (eqb (basis k) j) (values k) (pos 0)) (λ k h. ⊎_elim (λ (e : basis k ≡ j). rw (← e, value_own k) (over k h)) (λ (d : basis k ≢ j). rw (value_term k j d) (omega (arith, ints))) (cases_eq (basis k) j))

-- The basic solution of a feasible tableau is a solution, of the denominator as total.
pub basic_solution : {m n : ℕ} {columns : ℕ → ℕ → ℤ} {basis : ℕ → ℕ} {den : ℤ} {matrix : ℕ → ℕ → ℤ} → IsTableau m n columns basis den matrix → (side q : ℕ) → side < n → IsFeasible m side matrix → ((k : ℕ) → k < m → (basis k < q) ⊎ (matrix k side ≡ pos 0)) →
    IsSolution m q side columns den (basic_value m basis (λ k. matrix k side))
basic_solution {columns = columns} {matrix = matrix} t side q right feasible ends = record {
  positive = λ j l. value_positive t (λ k. matrix k side) feasible.at j;
  makes = λ c h. sum_basic t (λ k. matrix k side) q ends (λ j. columns j c) ∙ t.spans side c right h;
}
