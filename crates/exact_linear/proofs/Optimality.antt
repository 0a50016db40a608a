-- Rows of reduced costs that are 0 or more show an optimum. A solution times the row is, by the relation that the solution is
-- between the start's columns, the denominator times its cost up to the row's right side; both factors are 0 or more. The basic
-- solution has only basic columns, where the row is 0, and so attains the bound.
use Rattle.std.proofs.Common.{◌≡◌, ◌⊎◌, ℕ, ◌<◌, ◌≤◌, ℤ, pos, ◌+ℤ◌, ◌-ℤ◌, ◌*ℤ◌, ◌≤ℤ◌, neg_ℤ, ap, ◌∙◌, ⊎_elim, arith}
use Rattle.std.proofs.lemmas.Int.{ints}
use Rattle.exact_algebra.proofs.Order.{cancel_positive, product_not_negative, no_zero_divisors}
use Rattle.exact_algebra.proofs.RingLaws.{*ℤ_comm, *ℤ-zero, zero-*ℤ, neg_ℤ-*ℤ}
use Rattle.exact_algebra.proofs.RingTactic.{ring_laws, linear}
use Rattle.exact_algebra.proofs.SumOrder.{sum_to_not_negative, each_nothing}
use Rattle.exact_algebra.proofs.Sums.{sum_to-same, sum_to-one, sum_to-nothing, sum_to-neg}
use Rattle.exact_algebra.specs.Sums.{sum_to}
use Rattle.exact_linear.proofs.Solutions.{sum_basic, basic_solution}
use Rattle.exact_linear.proofs.Tableaus.{basic_same, basic_other, cost_relation}
use Rattle.exact_linear.specs.Simplex.{IsFeasible, IsSolution, basic_value}
use Rattle.exact_linear.specs.Tableau.{IsTableau, IsCostRow}

-- The reduced cost of a basic column is 0.
pub basic_cost : {m n : ℕ} {columns : ℕ → ℕ → ℤ} {costs row : ℕ → ℤ} {basis : ℕ → ℕ} {den : ℤ} {matrix : ℕ → ℕ → ℤ} → IsTableau m n columns basis den matrix → IsCostRow m n costs basis den matrix row → (k : ℕ) → k < m → row (basis k) ≡ pos 0
basic_cost {m} {costs = costs} {row = row} {basis = basis} {den = den} {matrix = matrix} t z k h =
    let only = sum_to-one m k (λ l. costs (basis l) *ℤ matrix l (basis k)) h (λ l p d. ap (λ e. costs (basis l) *ℤ e) (basic_other t l k p h d) ∙ *ℤ-zero (costs (basis l))) in
    let own = ap (λ e. costs (basis k) *ℤ e) (basic_same t k h) ∙ *ℤ_comm (costs (basis k)) den in
    let whole = z.at (basis k) (t.within k h) in
    omega (arith, linear)

module _ {m n : ℕ} {columns : ℕ → ℕ → ℤ} {costs row : ℕ → ℤ} {basis : ℕ → ℕ} {den : ℤ} {matrix : ℕ → ℕ → ℤ} (t : IsTableau m n columns basis den matrix) (z : IsCostRow m n costs basis den matrix row) (q side : ℕ) (inside : q ≤ n) (right : side < n) where
  -- The cost of a solution, by the row.
  pub cost_of : (total : ℤ) (x : ℕ → ℤ) → ((c : ℕ) → c < m → sum_to q (λ j. columns j c *ℤ x j) ≡ total *ℤ columns side c) →
      sum_to q (λ j. row j *ℤ x j) ≡ den *ℤ sum_to q (λ j. costs j *ℤ x j) +ℤ total *ℤ (row side -ℤ den *ℤ costs side)
  cost_of total x makes = cost_relation t costs row z q (λ j. j) x total side (λ j l. omega arith) right makes

  -- Where the costs are payoffs with their signs changed: no solution has a greater payoff than the row's right side.
  module _ (payoff : ℕ → ℤ) (negated : (j : ℕ) → j < q → costs j ≡ neg_ℤ (payoff j)) (free : costs side ≡ pos 0) where
    pub payoff_of : (total : ℤ) (x : ℕ → ℤ) → ((c : ℕ) → c < m → sum_to q (λ j. columns j c *ℤ x j) ≡ total *ℤ columns side c) →
        sum_to q (λ j. row j *ℤ x j) +ℤ den *ℤ sum_to q (λ j. payoff j *ℤ x j) ≡ total *ℤ row side
    payoff_of total x makes =
        let cost = cost_of total x makes in
        let signs = sum_to-same q (λ j. costs j *ℤ x j) (λ j. neg_ℤ (payoff j *ℤ x j)) (λ j l. ap (λ e. e *ℤ x j) (negated j l) ∙ neg_ℤ-*ℤ (payoff j) (x j)) ∙ sum_to-neg q (λ j. payoff j *ℤ x j) in
        remaining (sum_to q (λ j. row j *ℤ x j)) den (sum_to q (λ j. costs j *ℤ x j)) (sum_to q (λ j. payoff j *ℤ x j)) total (row side) (costs side) signs free cost
      where
        remaining : (a d b g e u v : ℤ) → b ≡ neg_ℤ g → v ≡ pos 0 → a ≡ d *ℤ b +ℤ e *ℤ (u -ℤ d *ℤ v) → a +ℤ d *ℤ g ≡ e *ℤ u
        remaining a d b g e u v first second third = let given = simp ring_laws at (rw (first, second) at third) in omega (arith, linear)

    pub at_most_right_side : (total : ℤ) (x : ℕ → ℤ) → IsSolution m q side columns total x → ((j : ℕ) → j < q → pos 0 ≤ℤ row j) → (den *ℤ sum_to q (λ j. payoff j *ℤ x j)) ≤ℤ (total *ℤ row side)
    at_most_right_side total x solution optimal =
        let whole = payoff_of total x solution.makes in
        let slack = sum_to_not_negative q (λ j. row j *ℤ x j) (λ j l. product_not_negative (optimal j l) (solution.positive j l)) in
        omega (arith, linear)

    -- The basic solution has that payoff.
    pub basic_payoff : IsFeasible m side matrix → ((k : ℕ) → k < m → (basis k < q) ⊎ (matrix k side ≡ pos 0)) → sum_to q (λ j. payoff j *ℤ basic_value m basis (λ k. matrix k side) j) ≡ row side
    basic_payoff feasible ends =
        let solution = basic_solution t side q right feasible ends in
        let whole = payoff_of den (basic_value m basis (λ k. matrix k side)) solution.makes in
        let none = sum_basic t (λ k. matrix k side) q ends row ∙ sum_to-nothing m (λ k. row (basis k) *ℤ matrix k side) (λ k h. ap (λ e. e *ℤ matrix k side) (basic_cost t z k h) ∙ zero-*ℤ (matrix k side)) in
        cancel_positive den t.positive (omega (arith, linear))

-- A second objective, among the solutions that the first one doesn't tell apart: where each of the first row's products is 0,
-- the second row counts only in columns where the first one is 0.
pub second_row : (q : ℕ) (first second x : ℕ → ℤ) → ((j : ℕ) → j < q → pos 0 ≤ℤ x j) → ((j : ℕ) → j < q → pos 0 ≤ℤ first j) → ((j : ℕ) → j < q → first j ≡ pos 0 → pos 0 ≤ℤ second j) → sum_to q (λ j. first j *ℤ x j) ≡ pos 0 → pos 0 ≤ℤ sum_to q (λ j. second j *ℤ x j)
second_row q first second x over optimal then_optimal none = sum_to_not_negative q (λ j. second j *ℤ x j) (λ j l. ⊎_elim (λ (e : first j ≡ pos 0). product_not_negative (then_optimal j l e) (over j l)) (λ (e : x j ≡ pos 0). rw (e, *ℤ-zero (second j)) (omega (arith, ints))) (no_zero_divisors (first j) (x j) (each_nothing q j (λ i. first i *ℤ x i) l (λ i p. product_not_negative (optimal i p) (over i p)) none)))

-- So among the solutions of the greatest first payoff none has a greater second one than the second row's right side.
pub second_at_most : {m n : ℕ} {columns : ℕ → ℕ → ℤ} {costs costs' row row' : ℕ → ℤ} {basis : ℕ → ℕ} {den : ℤ} {matrix : ℕ → ℕ → ℤ} → IsTableau m n columns basis den matrix → IsCostRow m n costs basis den matrix row → IsCostRow m n costs' basis den matrix row' → (q side : ℕ) → q ≤ n → side < n →
    (payoff payoff' : ℕ → ℤ) → ((j : ℕ) → j < q → costs j ≡ neg_ℤ (payoff j)) → ((j : ℕ) → j < q → costs' j ≡ neg_ℤ (payoff' j)) → costs side ≡ pos 0 → costs' side ≡ pos 0 → (total : ℤ) (x : ℕ → ℤ) → IsSolution m q side columns total x →
    ((j : ℕ) → j < q → pos 0 ≤ℤ row j) → ((j : ℕ) → j < q → row j ≡ pos 0 → pos 0 ≤ℤ row' j) → den *ℤ sum_to q (λ j. payoff j *ℤ x j) ≡ total *ℤ row side → (den *ℤ sum_to q (λ j. payoff' j *ℤ x j)) ≤ℤ (total *ℤ row' side)
second_at_most {row = row} {row' = row'} t z y q side inside right payoff payoff' negated negated' free free' total x solution optimal then_optimal greatest =
    let one = payoff_of t z q side inside right payoff negated free total x solution.makes in
    let two = payoff_of t y q side inside right payoff' negated' free' total x solution.makes in
    let none : sum_to q (λ j. row j *ℤ x j) ≡ pos 0 = omega (arith, linear) in
    let slack = second_row q row row' x solution.positive optimal then_optimal none in
    omega (arith, linear)
