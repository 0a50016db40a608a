-- The artificial columns of a row of reduced costs hold multipliers: each column of the start is the sum of the unit vectors
-- times its coordinates, and the row of reduced costs keeps that relation.
use Rattle.std.proofs.Common.{◌≡◌, ℕ, ◌<◌, ◌≤◌, ℤ, pos, ◌+ℤ◌, ◌-ℤ◌, ◌*ℤ◌, ◌≤ℤ◌, neg_ℤ, sym, ap, subst, ◌∙◌, arith}
use Rattle.exact_algebra.proofs.Duality.{weak_duality}
use Rattle.exact_algebra.proofs.RingLaws.{zero-*ℤ}
use Rattle.exact_algebra.proofs.RingTactic.{ring_laws, linear}
use Rattle.exact_algebra.proofs.Sums.{sum_to-same, sum_to-nothing, sum_to-difference, sum_to-scale}
use Rattle.exact_algebra.specs.Sums.{sum_to}
use Rattle.exact_linear.proofs.Determinant.{unit}
use Rattle.exact_linear.proofs.Start.{by_units}
use Rattle.exact_linear.proofs.Tableaus.{cost_relation}
use Rattle.exact_linear.specs.Simplex.{IsSolution}
use Rattle.exact_linear.specs.Tableau.{IsTableau, IsCostRow}

module _ {m n : ℕ} {columns : ℕ → ℕ → ℤ} {costs row : ℕ → ℤ} {basis : ℕ → ℕ} {den : ℤ} {matrix : ℕ → ℕ → ℤ} (t : IsTableau m n columns basis den matrix) (z : IsCostRow m n costs basis den matrix row)
    (artificial : ℕ → ℕ) (within : (k : ℕ) → k < m → artificial k < n) (units : (k c : ℕ) → k < m → c < m → columns (artificial k) c ≡ unit k c) (free : (k : ℕ) → k < m → costs (artificial k) ≡ pos 0) where
  -- The row is the multipliers times each column, and den times the start's cost.
  pub multipliers : (j : ℕ) → j < n → row j ≡ sum_to m (λ k. row (artificial k) *ℤ columns j k) +ℤ den *ℤ costs j
  multipliers j l =
      let related = cost_relation t costs row z m artificial (columns j) (pos 1) j within l (λ c h. sum_to-same m (λ k. columns (artificial k) c *ℤ columns j k) (λ k. unit k c *ℤ columns j k) (λ k p. ap (λ e. e *ℤ columns j k) (units k c p h)) ∙ (by_units m c (columns j) h ∙ omega (arith, linear))) in
      let nothing = sum_to-nothing m (λ k. costs (artificial k) *ℤ columns j k) (λ k h. ap (λ e. e *ℤ columns j k) (free k h) ∙ zero-*ℤ (columns j k)) in
      remaining (sum_to m (λ k. row (artificial k) *ℤ columns j k)) den (sum_to m (λ k. costs (artificial k) *ℤ columns j k)) (row j) (costs j) nothing related
    where
      remaining : (a d b x c : ℤ) → b ≡ pos 0 → a ≡ d *ℤ b +ℤ pos 1 *ℤ (x -ℤ d *ℤ c) → x ≡ a +ℤ d *ℤ c
      remaining a d b x c first second = let given = simp ring_laws at (rw first at second) in omega (arith, linear)

  -- A direction is certified column by column: the multipliers times the column, less den times its payoff, are the row.
  pub certified : (payoff : ℕ → ℤ) (j : ℕ) → j < n → costs j ≡ neg_ℤ (payoff j) → sum_to m (λ k. row (artificial k) *ℤ columns j k) -ℤ den *ℤ payoff j ≡ row j
  certified payoff j l negated = sym (multipliers j l ∙ remaining (sum_to m (λ k. row (artificial k) *ℤ columns j k)) den (costs j) (payoff j) negated)
    where
      remaining : (a d c g : ℤ) → c ≡ neg_ℤ g → a +ℤ d *ℤ c ≡ a -ℤ d *ℤ g
      remaining a d c g is = rw is (simp ring_laws (omega (arith, linear)))

  -- Where the cost of a column is minus the sum of its coordinates, as in the first phase: what is left of den in each multiplier
  -- times the column is the row with its sign changed.
  pub phase_multipliers : (j : ℕ) → j < n → costs j ≡ neg_ℤ (sum_to m (λ k. columns j k)) → sum_to m (λ k. (den -ℤ row (artificial k)) *ℤ columns j k) ≡ neg_ℤ (row j)
  phase_multipliers j l phase =
      let whole = multipliers j l in
      let parted = sum_to-same m (λ k. (den -ℤ row (artificial k)) *ℤ columns j k) (λ k. den *ℤ columns j k -ℤ row (artificial k) *ℤ columns j k) (λ k h. apart den (row (artificial k)) (columns j k)) in
      let difference = sum_to-difference m (λ k. den *ℤ columns j k) (λ k. row (artificial k) *ℤ columns j k) in
      let scaled = sum_to-scale m den (λ k. columns j k) in
      remaining (sum_to m (λ k. row (artificial k) *ℤ columns j k)) den (sum_to m (λ k. columns j k)) (costs j) (row j) _ phase whole (parted ∙ (difference ∙ ap (λ e. e -ℤ sum_to m (λ k. row (artificial k) *ℤ columns j k)) scaled))
    where
      apart : (d y a : ℤ) → (d -ℤ y) *ℤ a ≡ d *ℤ a -ℤ y *ℤ a
      apart d y a = simp ring_laws (omega (arith, linear))

      remaining : (a d b c x w : ℤ) → c ≡ neg_ℤ b → x ≡ a +ℤ d *ℤ c → w ≡ d *ℤ b -ℤ a → w ≡ neg_ℤ x
      remaining a d b c x w first second third = let given = simp ring_laws at (rw first at second) in omega (arith, linear)

  -- By weak duality the multipliers bound the payoff of each solution, where the row is 0 or more.
  pub multipliers_bound : (q side : ℕ) (payoff : ℕ → ℤ) → q ≤ n → ((j : ℕ) → j < q → costs j ≡ neg_ℤ (payoff j)) → ((j : ℕ) → j < q → pos 0 ≤ℤ row j) → (total : ℤ) (x : ℕ → ℤ) → IsSolution m q side columns total x →
      (den *ℤ sum_to q (λ j. payoff j *ℤ x j)) ≤ℤ (total *ℤ sum_to m (λ k. row (artificial k) *ℤ columns side k))
  multipliers_bound q side payoff inside negated optimal total x solution =
      weak_duality m q (λ i j. columns j i) (columns side) payoff x (λ k. row (artificial k)) total den solution.positive solution.makes
      (λ j l. subst (λ e. pos 0 ≤ℤ e) (sym (certified payoff j (omega arith) (negated j l))) (optimal j l))
