-- Where payoffs are bounded over the solutions, a column that improves has a row for the ratio rule. If not, the basic solution
-- stays a solution while the column rises by any number and the basic columns rise by their entries' opposites; its payoff rises
-- with the number.
use Rattle.std.proofs.Common.{◌≡◌, ◌≢◌, ◌⊎◌, ℕ, ◌<◌, ◌≤◌, cond, eqb, eq-eqb, ne_eqb, ℤ, pos, ◌+ℤ◌, ◌-ℤ◌, ◌*ℤ◌, ◌≤ℤ◌, ◌<ℤ◌, neg_ℤ, refl, ap, ◌∙◌, ⊎_elim, inl, inr, arith}
use Rattle.std.proofs.lemmas.Bool.{cases_eq, cond-true, cond-false}
use Rattle.std.proofs.lemmas.Int.{ints}
use lib.Signed.{lt_z}
use Rattle.exact_algebra.proofs.FiniteChoice.{FirstBelow, first, no_first, first_below}
use Rattle.exact_algebra.proofs.Order.{product_not_negative, product_not_positive, cancel_positive, times_at_most}
use Rattle.exact_algebra.proofs.RingLaws.{*ℤ-+ℤ, *ℤ-zero, zero-*ℤ}
use Rattle.exact_algebra.proofs.RingTactic.{ring_laws, linear}
use Rattle.exact_algebra.proofs.Sums.{sum_to-same, sum_to-add, sum_to-difference, sum_to-scale, sum_to-one, sum_to-nothing}
use Rattle.exact_algebra.specs.Sums.{sum_to}
use Rattle.exact_linear.proofs.Optimality.{basic_cost, payoff_of}
use Rattle.exact_linear.proofs.Solutions.{sum_basic, value_positive}
use Rattle.exact_linear.specs.Simplex.{IsFeasible, IsSolution, basic_value}
use Rattle.exact_linear.specs.Tableau.{IsTableau, IsCostRow}

module _ {m n : ℕ} {columns : ℕ → ℕ → ℤ} {costs row : ℕ → ℤ} {basis : ℕ → ℕ} {den : ℤ} {matrix : ℕ → ℕ → ℤ} (t : IsTableau m n columns basis den matrix) (z : IsCostRow m n costs basis den matrix row) (q side : ℕ) (inside : q ≤ n) (right : side < n)
    (payoff : ℕ → ℤ) (negated : (j : ℕ) → j < q → costs j ≡ neg_ℤ (payoff j)) (free : costs side ≡ pos 0) (feasible : IsFeasible m side matrix)
    (s : ℕ) (offered : s < q) (improves : row s <ℤ pos 0) (ends : (k : ℕ) → k < m → (basis k < q) ⊎ ((matrix k side ≡ pos 0) × (matrix k s ≡ pos 0))) where
  -- The basic columns where column s rises by `rise` times the denominator.
  abbrev lowered : ℤ → ℕ → ℤ
  lowered rise k = matrix k side -ℤ rise *ℤ matrix k s

  abbrev alone : ℤ → ℕ → ℤ
  alone rise j = cond (eqb j s) (rise *ℤ den) (pos 0)

  -- The point on the ray.
  abbrev risen : ℤ → ℕ → ℤ
  risen rise j = basic_value m basis (lowered rise) j +ℤ alone rise j

  lowered_ends : (rise : ℤ) (k : ℕ) → k < m → (basis k < q) ⊎ (lowered rise k ≡ pos 0)
  lowered_ends rise k h = by (ends k h)
    where
      by : (basis k < q) ⊎ ((matrix k side ≡ pos 0) × (matrix k s ≡ pos 0)) → (basis k < q) ⊎ (lowered rise k ≡ pos 0)
      by (inl within) = inl within
      by (inr both) = inr (rw (both.0, both.1, *ℤ-zero rise))

  -- A sum over the ray's point.
  sum_risen : (rise : ℤ) (f : ℕ → ℤ) → sum_to q (λ j. f j *ℤ risen rise j) ≡ sum_to m (λ k. f (basis k) *ℤ matrix k side) -ℤ rise *ℤ sum_to m (λ k. f (basis k) *ℤ matrix k s) +ℤ f s *ℤ (rise *ℤ den)
  sum_risen rise f =
      let parted = sum_to-same q (λ j. f j *ℤ risen rise j) (λ j. f j *ℤ basic_value m basis (lowered rise) j +ℤ f j *ℤ alone rise j) (λ j l. *ℤ-+ℤ (f j) (basic_value m basis (lowered rise) j) (alone rise j)) in
      let added = sum_to-add q (λ j. f j *ℤ basic_value m basis (lowered rise) j) (λ j. f j *ℤ alone rise j) in
      let basic = sum_basic t (lowered rise) q (lowered_ends rise) f in
      let spread = sum_to-same m (λ k. f (basis k) *ℤ lowered rise k) (λ k. f (basis k) *ℤ matrix k side -ℤ rise *ℤ (f (basis k) *ℤ matrix k s)) (λ k h. apart (f (basis k)) (matrix k side) rise (matrix k s)) in
      let difference = sum_to-difference m (λ k. f (basis k) *ℤ matrix k side) (λ k. rise *ℤ (f (basis k) *ℤ matrix k s)) in
      let scaled = sum_to-scale m rise (λ k. f (basis k) *ℤ matrix k s) in
      let one = sum_to-one q s (λ j. f j *ℤ alone rise j) offered (λ j l d. ap (λ e. f j *ℤ e) (cond-false (eqb j s) (rise *ℤ den) (pos 0) (ne_eqb j s d)) ∙ *ℤ-zero (f j)) in
      let own = ap (λ e. f s *ℤ e) (cond-true (eqb s s) (rise *ℤ den) (pos 0) (eq-eqb s s refl)) in
      omega (arith, linear)
    where
      apart : (g a w b : ℤ) → g *ℤ (a -ℤ w *ℤ b) ≡ g *ℤ a -ℤ w *ℤ (g *ℤ b)
      apart g a w b = simp ring_laws (omega (arith, linear))

  module _ (no_row : (i : ℕ) → i < m → matrix i s ≤ℤ pos 0) (rise : ℤ) (up : pos 0 ≤ℤ rise) where
    risen_solution : IsSolution m q side columns den (risen rise)
    risen_solution = record { positive = λ j l. positive j; makes = makes }
      where
        over : (k : ℕ) → k < m → pos 0 ≤ℤ lowered rise k
        over k h = let below = product_not_positive up (no_row k h) in let here = feasible.at k h in omega (arith, linear)

        step : pos 0 ≤ℤ (rise *ℤ den)
        step = product_not_negative up (let over_d = t.positive in let weak : pos 0 ≤ℤ den = omega (arith, ints) in weak)

        alone_over : (j : ℕ) → pos 0 ≤ℤ alone rise j
        alone_over j = ⊎_elim (λ (e : j ≡ s). rw (cond-true (eqb j s) (rise *ℤ den) (pos 0) (eq-eqb j s e)) step) (λ (d : j ≢ s). rw (cond-false (eqb j s) (rise *ℤ den) (pos 0) (ne_eqb j s d)) (omega (arith, ints))) (cases_eq j s)

        positive : (j : ℕ) → pos 0 ≤ℤ risen rise j
        positive j = let one = value_positive t (lowered rise) over j in let two = alone_over j in omega (arith, ints)

        makes : (c : ℕ) → c < m → sum_to q (λ j. columns j c *ℤ risen rise j) ≡ den *ℤ columns side c
        makes c h = remaining (sum_to q (λ j. columns j c *ℤ risen rise j)) (sum_to m (λ k. columns (basis k) c *ℤ matrix k side)) (sum_to m (λ k. columns (basis k) c *ℤ matrix k s)) (columns side c) (columns s c) (sum_risen rise (λ j. columns j c)) (t.spans side c right h) (t.spans s c (omega arith) h)
          where
            remaining : (w a b x y : ℤ) → w ≡ a -ℤ rise *ℤ b +ℤ y *ℤ (rise *ℤ den) → a ≡ den *ℤ x → b ≡ den *ℤ y → w ≡ den *ℤ x
            remaining w a b x y is one two = let given = simp ring_laws at (rw (one, two) at is) in omega (arith, linear)

    -- The payoff of the point.
    risen_payoff : sum_to q (λ j. payoff j *ℤ risen rise j) ≡ row side -ℤ rise *ℤ row s
    risen_payoff =
        let whole = payoff_of t z q side inside right payoff negated free den (risen rise) risen_solution.makes in
        let basic = λ (g : ℕ → ℤ). sum_to-nothing m (λ k. row (basis k) *ℤ g k) (λ k h. ap (λ e. e *ℤ g k) (basic_cost t z k h) ∙ zero-*ℤ (g k)) in
        let slack = sum_risen rise row in
        cancel_positive den t.positive (remaining (sum_to q (λ j. row j *ℤ risen rise j)) (sum_to q (λ j. payoff j *ℤ risen rise j)) (sum_to m (λ k. row (basis k) *ℤ matrix k side)) (sum_to m (λ k. row (basis k) *ℤ matrix k s)) (row side) (row s) (basic (λ k. matrix k side)) (basic (λ k. matrix k s)) slack whole)
      where
        remaining : (w v a b x y : ℤ) → a ≡ pos 0 → b ≡ pos 0 → w ≡ a -ℤ rise *ℤ b +ℤ y *ℤ (rise *ℤ den) → w +ℤ den *ℤ v ≡ den *ℤ x → den *ℤ v ≡ den *ℤ (x -ℤ rise *ℤ y)
        remaining w v a b x y one two is whole = let given = simp ring_laws at (rw (one, two) at is) in simp ring_laws (omega (arith, linear))

  -- A row for the ratio rule, where the payoffs of the solutions of the denominator as total are bounded.
  pub some_ratio : (bound : ℤ) → ((x : ℕ → ℤ) → IsSolution m q side columns den x → sum_to q (λ j. payoff j *ℤ x j) ≤ℤ bound) → (i : ℕ) × (i < m) × (pos 0 <ℤ matrix i s)
  some_ratio bound bounded = by (first_below (λ i. lt_z (pos 0) (matrix i s)) m)
    where
      unbounded : ((i : ℕ) → i < m → matrix i s ≤ℤ pos 0) → ⊥
      unbounded no_row =
          let basic = risen_payoff no_row (pos 0) (omega (arith, ints)) in
          let low = bounded (risen (pos 0)) (risen_solution no_row (pos 0) (omega (arith, ints))) in
          let none = zero-*ℤ (row s) in
          let rise = bound -ℤ row side +ℤ pos 1 in
          let up : pos 0 ≤ℤ rise = omega (arith, linear) in
          let high = risen_payoff no_row rise up in
          let least = bounded (risen rise) (risen_solution no_row rise up) in
          let steep : row s ≤ℤ neg_ℤ (pos 1) = omega (arith, ints) in
          let gain = times_at_most rise up steep in
          let unit_gain : rise *ℤ neg_ℤ (pos 1) ≡ neg_ℤ rise = omega (arith, linear) in
          omega (arith, linear)

      by : FirstBelow (λ i. lt_z (pos 0) (matrix i s)) m → (i : ℕ) × (i < m) × (pos 0 <ℤ matrix i s)
      by (first k h passes before) = (k, h, omega (arith, ints))
      by (no_first none) = absurd (unbounded (λ i h. let fails = none i h in omega (arith, ints)))
