-- The end of a loop by Bland's rule: a rule over states, each of which stands for a feasible tableau of one start, takes fewer
-- than n ^ m steps, for m rows and n columns. A run of the rule from a state to one of the same basis would be a return.
use Rattle.std.proofs.Common.{◌≡◌, ◌⊎◌, ℕ, zero, suc, ◌^◌, ◌<◌, ◌≤◌, ℤ, Option, Some, sym, ap, subst, ◌∙◌, inl, inr, arith}
use Rattle.std.proofs.lemmas.Bool.{cases_lt}
use Rattle.exact_algebra.proofs.Families.{put}
use Rattle.exact_algebra.proofs.NoReturn.{steps_left, steps_left_bounded, steps_left_smaller, End, end_of}
use Rattle.exact_algebra.proofs.RunStates.{Run, run_of}
use Rattle.exact_algebra.specs.Runs.{Leads}
use Rattle.exact_linear.proofs.BasisCodes.{basis_code, basis_code_bounded, basis_code_same}
use Rattle.exact_linear.proofs.BlandRuns.{BlandRun}
use Rattle.exact_linear.proofs.BlandsRule.{no_basis_returns}
use Rattle.exact_linear.specs.Basis.{IsSameBasis}
use Rattle.exact_linear.specs.BlandRule.{IsBlandStep}
use Rattle.exact_linear.specs.Content.{Content, IsPricedTableau}

-- A step of Bland's rule from one content to another.
pub record BlandMove (m q side : ℕ) (rank : ℕ → ℕ) (before after : Content) : Type 0 where
  pub r : ℕ
  pub s : ℕ
  pub rule : IsBlandStep m q side rank before.basis before.matrix before.row r s
  pub moves : (k : ℕ) → k < m → after.basis k ≡ put before.basis r s k

module _ {S : Type 0} (next : S → Option S) (content : S → Content) (Kept : S → Type 0) (m n q side : ℕ) (rank : ℕ → ℕ) (columns : ℕ → ℕ → ℤ) (costs : ℕ → ℤ)
    (inside : q ≤ n) (right : side < n) (distinct : (i j : ℕ) → i < q → j < q → rank i ≡ rank j → i ≡ j)
    (kept : (s t : S) → Kept s → next s ≡ Some t → Kept t)
    (is_tableau : (s : S) → Kept s → IsPricedTableau m n side columns costs (content s))
    (by_rule : (s t : S) → Kept s → next s ≡ Some t → BlandMove m q side rank (content s) (content t)) where
  -- The code of a state's basis.
  pub code : S → ℕ
  code s = basis_code n m (content s).basis

  pub coded : (s : S) → Kept s → code s < n ^ m
  unfolding code
  coded s h = basis_code_bounded n m (content s).basis (is_tableau s h).tableau.within

  module _ (s t : S) (h : Kept s) (p : Run next s t) where
    kept_at : (k : ℕ) → k ≤ p.steps → Kept (p.state k)
    kept_at zero l = subst Kept (sym p.begins) h
    kept_at (suc k) l = kept (p.state k) (p.state (suc k)) (kept_at k (omega arith)) (p.follows k l)

    move_at : (k : ℕ) → k < p.steps → BlandMove m q side rank (content (p.state k)) (content (p.state (suc k)))
    move_at k l = by_rule (p.state k) (p.state (suc k)) (kept_at k (omega arith)) (p.follows k l)

    abbrev row_of : (k : ℕ) → (k < p.steps) ⊎ (p.steps ≤ k) → ℕ
    row_of k (inl l) = (move_at k l).r
    row_of k (inr l) = 0

    abbrev column_of : (k : ℕ) → (k < p.steps) ⊎ (p.steps ≤ k) → ℕ
    column_of k (inl l) = (move_at k l).s
    column_of k (inr l) = 0

    rule_of : (k : ℕ) → k < p.steps → (c : (k < p.steps) ⊎ (p.steps ≤ k)) → IsBlandStep m q side rank (content (p.state k)).basis (content (p.state k)).matrix (content (p.state k)).row (row_of k c) (column_of k c)
    rule_of k l (inl g) = (move_at k g).rule
    rule_of k l (inr g) = absurd (omega arith)

    moves_of : (k : ℕ) → k < p.steps → (c : (k < p.steps) ⊎ (p.steps ≤ k)) (i : ℕ) → i < m → (content (p.state (suc k))).basis i ≡ put (content (p.state k)).basis (row_of k c) (column_of k c) i
    moves_of k l (inl g) i b = (move_at k g).moves i b
    moves_of k l (inr g) i b = absurd (omega arith)

    bland_run : BlandRun m n q side rank columns costs p.steps
    bland_run = record {
      basis = λ k. (content (p.state k)).basis;
      den = λ k. (content (p.state k)).den;
      matrix = λ k. (content (p.state k)).matrix;
      row = λ k. (content (p.state k)).row;
      r = λ k. row_of k (cases_lt k p.steps);
      s = λ k. column_of k (cases_lt k p.steps);
      tableau = λ k l. (is_tableau (p.state k) (kept_at k l)).tableau;
      priced = λ k l. (is_tableau (p.state k) (kept_at k l)).priced;
      feasible = λ k l. (is_tableau (p.state k) (kept_at k l)).feasible;
      steps = λ k l. rule_of k l (cases_lt k p.steps);
      moves = λ k l. moves_of k l (cases_lt k p.steps);
    }

    returns : code s ≡ code t → IsSameBasis m (content (p.state 0)).basis (content (p.state p.steps)).basis
    unfolding code
    returns same = record { forth = λ k l. (k, l, sym (equal k l)); back = λ k l. (k, l, equal k l) }
      where
        within : (k : ℕ) → k ≤ p.steps → (i : ℕ) → i < m → (content (p.state k)).basis i < n
        within k l = (is_tableau (p.state k) (kept_at k l)).tableau.within

        codes : basis_code n m (content (p.state 0)).basis ≡ basis_code n m (content (p.state p.steps)).basis
        codes = ap (λ x. basis_code n m (content x).basis) p.begins ∙ (same ∙ sym (ap (λ x. basis_code n m (content x).basis) p.ends))

        equal : (k : ℕ) → k < m → (content (p.state 0)).basis k ≡ (content (p.state p.steps)).basis k
        equal = basis_code_same n m (content (p.state 0)).basis (content (p.state p.steps)).basis (within 0 (omega arith)) (within p.steps (omega arith)) codes

    never_back : code s ≡ code t → ⊥
    unfolding bland_run
    never_back same = no_basis_returns bland_run inside right distinct p.moves (returns same)

  -- No state leads to one of its own basis.
  pub no_return : (s t : S) → Kept s → Leads next s t → code s ≡ code t → ⊥
  no_return s t h leads = never_back s t h (run_of next s t leads)

  -- Fewer than n ^ m steps are taken.
  pub bland_bounded : (s : S) → Kept s → steps_left next (n ^ m) s < n ^ m
  bland_bounded = steps_left_bounded next Kept code (n ^ m) kept coded no_return

  -- The measure of a loop that takes the rule's step from s to t.
  pub bland_smaller : (s t : S) → Kept s → next s ≡ Some t → steps_left next (n ^ m) t < steps_left next (n ^ m) s
  bland_smaller = steps_left_smaller next Kept code (n ^ m) kept coded no_return

  -- The state at which the rule stops.
  pub bland_end : (s : S) → Kept s → End next Kept code (n ^ m) kept coded no_return s
  bland_end = end_of next Kept code (n ^ m) kept coded no_return
