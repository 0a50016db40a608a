-- Two tableaus of one start over two bases. The basic columns of the first are a relation between the start's columns, so that
-- one between entries, or reduced costs, of the second holds as well. Then one step from the first basis to the second: what
-- becomes of the reduced cost of the column that left, of the row's right side and, in a degenerate step, of the others.
use Rattle.std.proofs.Common.{◌≡◌, ◌≢◌, ℕ, ◌<◌, ℤ, pos, ◌+ℤ◌, ◌-ℤ◌, ◌*ℤ◌, ◌≤ℤ◌, ◌<ℤ◌, sym, ap, ◌∙◌, ⊎_elim, arith}
use Rattle.std.proofs.lemmas.Bool.{cases_eq}
use Rattle.std.proofs.lemmas.Int.{ints}
use Rattle.exact_algebra.proofs.Families.{put, put-same, put-other}
use Rattle.exact_algebra.proofs.Order.{cancel_positive, factor_positive, product_negative}
use Rattle.exact_algebra.proofs.RingLaws.{*ℤ_comm, *ℤ-zero, zero-*ℤ}
use Rattle.exact_algebra.proofs.RingTactic.{ring_laws, linear}
use Rattle.exact_algebra.proofs.Sums.{sum_to-one, sum_to-nothing}
use Rattle.exact_algebra.specs.Sums.{sum_to}
use Rattle.exact_linear.proofs.Optimality.{basic_cost}
use Rattle.exact_linear.proofs.Tableaus.{relation, cost_relation, basic_same, basic_other}
use Rattle.exact_linear.specs.Tableau.{IsTableau, IsCostRow}

module _ {m n : ℕ} {columns : ℕ → ℕ → ℤ} {costs row row' : ℕ → ℤ} {basis basis' : ℕ → ℕ} {den den' : ℤ} {matrix matrix' : ℕ → ℕ → ℤ}
    (t : IsTableau m n columns basis den matrix) (z : IsCostRow m n costs basis den matrix row) (u : IsTableau m n columns basis' den' matrix') (z' : IsCostRow m n costs basis' den' matrix' row') where
  -- The second tableau's rows over the first basis.
  pub crossed_rows : (i j : ℕ) → i < m → j < n → sum_to m (λ k. matrix' i (basis k) *ℤ matrix k j) ≡ den *ℤ matrix' i j
  crossed_rows i j h l = relation u m basis (λ k. matrix k j) den j t.within l (λ c p. t.spans j c l p) i h

  -- The second row of reduced costs over the first basis.
  pub crossed_costs : (j : ℕ) → j < n → sum_to m (λ k. row' (basis k) *ℤ matrix k j) ≡ den *ℤ row' j -ℤ den' *ℤ row j
  crossed_costs j l =
      remaining (sum_to m (λ k. row' (basis k) *ℤ matrix k j)) (sum_to m (λ k. costs (basis k) *ℤ matrix k j)) (row' j) (costs j) (row j)
      (cost_relation u costs row' z' m basis (λ k. matrix k j) den j t.within l (λ c p. t.spans j c l p)) (z.at j l)
    where
      remaining : (a b x c y : ℤ) → a ≡ den' *ℤ b +ℤ den *ℤ (x -ℤ den' *ℤ c) → y +ℤ b ≡ den *ℤ c → a ≡ den *ℤ x -ℤ den' *ℤ y
      remaining a b x c y first second =
          let one = simp ring_laws at first in
          let two = simp ring_laws at (ap (λ e. den' *ℤ e) second) in
          omega (arith, linear)

  -- One step: column s takes the place of the basic column of row r.
  module _ (r s : ℕ) (in_rows : r < m) (in_columns : s < n) (moves : (k : ℕ) → k < m → basis' k ≡ put basis r s k) where
    stays : (k : ℕ) → k < m → k ≢ r → basis' k ≡ basis k
    stays k h d = moves k h ∙ put-other basis r s k d

    comes : basis' r ≡ s
    comes = moves r in_rows ∙ put-same basis r s

    entered_cost : row' s ≡ pos 0
    entered_cost = ap row' (sym comes) ∙ basic_cost u z' r in_rows

    -- The reduced costs of the second basis are 0 in the first one, but for the column that left.
    left_alone : (j : ℕ) → j < n → row' (basis r) *ℤ matrix r j ≡ den *ℤ row' j -ℤ den' *ℤ row j
    left_alone j l =
        sym (sum_to-one m r (λ k. row' (basis k) *ℤ matrix k j) in_rows (λ k h d. ap (λ e. e *ℤ matrix k j) (ap row' (sym (stays k h d)) ∙ basic_cost u z' k h) ∙ zero-*ℤ (matrix k j)))
        ∙ crossed_costs j l

    -- The column that left has a positive reduced cost.
    pub left_cost : pos 0 <ℤ matrix r s → row s <ℤ pos 0 → pos 0 <ℤ row' (basis r)
    left_cost corner improves =
        let whole = left_alone s in_columns in
        let below = product_negative u.positive improves in
        let none = ap (λ e. den *ℤ e) entered_cost ∙ *ℤ-zero den in
        let weak : pos 0 ≤ℤ matrix r s = omega (arith, ints) in
        factor_positive (matrix r s) weak (rw (*ℤ_comm (matrix r s) (row' (basis r))) (omega (arith, linear)))

    -- The right side of the row of reduced costs rises, over the denominator.
    pub value_change : (side : ℕ) → side < n → row' (basis r) *ℤ matrix r side ≡ den *ℤ row' side -ℤ den' *ℤ row side
    value_change side l = left_alone side l

    -- In a degenerate step the right sides, over the denominator, stay as they are.
    module _ (side : ℕ) (right : side < n) (degenerate : matrix r side ≡ pos 0) where
      pub side_stays : (i : ℕ) → i < m → i ≢ r → den' *ℤ matrix i side ≡ den *ℤ matrix' i side
      side_stays i h d =
          let only = sum_to-one m i (λ k. matrix' i (basis k) *ℤ matrix k side) h (λ k l e. ⊎_elim
          (λ (f : k ≡ r). ap (λ x. matrix' i (basis k) *ℤ x) (ap (λ y. matrix y side) f ∙ degenerate) ∙ *ℤ-zero (matrix' i (basis k)))
          (λ (f : k ≢ r). ap (λ x. x *ℤ matrix k side) (ap (λ b. matrix' i b) (sym (stays k l f)) ∙ basic_other u i k h l (λ g. e (sym g))) ∙ zero-*ℤ (matrix k side))
          (cases_eq k r)) in
          let own = ap (λ b. matrix' i b) (sym (stays i h d)) ∙ basic_same u i h in
          ap (λ x. x *ℤ matrix i side) (sym own) ∙ (sym only ∙ crossed_rows i side h right)

      pub side_comes : matrix' r side ≡ pos 0
      side_comes =
          let none = sum_to-nothing m (λ k. matrix' r (basis k) *ℤ matrix k side) (λ k l. ⊎_elim
          (λ (f : k ≡ r). ap (λ x. matrix' r (basis k) *ℤ x) (ap (λ y. matrix y side) f ∙ degenerate) ∙ *ℤ-zero (matrix' r (basis k)))
          (λ (f : k ≢ r). ap (λ x. x *ℤ matrix k side) (ap (λ b. matrix' r b) (sym (stays k l f)) ∙ basic_other u r k in_rows l (λ g. f (sym g))) ∙ zero-*ℤ (matrix k side))
          (cases_eq k r)) in
          cancel_positive den t.positive (sym (crossed_rows r side in_rows right) ∙ (none ∙ sym (*ℤ-zero den)))
