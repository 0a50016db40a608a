-- Where no column improves, no solution pays more along the direction than the basic one, and of those that pay as much none pays more
-- along its left turn: by the reduced costs of the weighted payoffs.
use Rattle.std.proofs.Common.{◌≡◌, ◌⊎◌, ⊎_elim, inl, inr, ℕ, ◌+◌, ◌<◌, ◌≤◌, ℤ, pos, ◌+ℤ◌, ◌-ℤ◌, ◌*ℤ◌, ◌≤ℤ◌, ◌<ℤ◌, neg_ℤ, length, sym, ap, subst, ◌∙◌, arith}
use Rattle.std.proofs.lemmas.Bool.{cases_lt}
use Rattle.exact_algebra.proofs.Order.{below_or_at_least}
use Rattle.exact_algebra.proofs.RingTactic.{ring_laws, linear}
use Rattle.exact_algebra.proofs.Sums.{sum_to-same}
use Rattle.corr_game.specs.declared.sides.Side.TheVariants.{One, Two}
use Rattle.exact_linear.proofs.CostRows.{costs_combined}
use Rattle.exact_linear.proofs.Optimality.{at_most_right_side, basic_payoff, second_at_most}
use Rattle.exact_linear.proofs.Solutions.{basic_solution}
use Rattle.exact_linear.specs.Simplex as simplex
use Rattle.exact_linear.specs.Simplex.{basic_value}
use Rattle.exact_linear.specs.Tableau.{IsCostRow, column}
use Rattle.lp_form.specs.Program.{LpView, coefficient, payoff_of}
use Rattle.lp_form.specs.Solutions.{IsSolution, paid}
use Rattle.int_tableau.specs.Content.{Content}
use Rattle.int_tableau.specs.Start.{start_entry}
use Rattle.plane_hull.specs.declared.directions.Dir.{Dir}
use Rattle.bland_simplex.proofs.StartEntries.{entry_program, entry_right, first_program, first_right, second_program, second_right}
use Rattle.bland_simplex.proofs.TurnSteps.{solution_of, weighted, weighted_sum}
use Rattle.bland_simplex.proofs.Wholes.{width, side, whole_of}
use Rattle.bland_simplex.specs.Greatest.{IsGreatest, paid_along, paid_left}
use Rattle.bland_simplex.specs.Improving.{reduced_left, IsOptimal}
use Rattle.bland_simplex.specs.Ready.{IsReady}

turned : (a b u v : ℤ) → neg_ℤ b *ℤ u +ℤ a *ℤ v ≡ a *ℤ v -ℤ b *ℤ u
turned a b u v = simp ring_laws (omega (arith, linear))

module _ (lp : LpView) where
  linear_solution : (total : ℤ) (x : ℕ → ℤ) → IsSolution lp total x →
      simplex.IsSolution (length lp.rows) lp.cols (side lp) (column (start_entry lp)) total x
  linear_solution total x solution = record {
    positive = solution.not_negative;
    makes = λ c h. sum_to-same lp.cols (λ j. start_entry lp c j *ℤ x j) (λ j. coefficient lp c j *ℤ x j)
        (λ j l. ap (λ e. e *ℤ x j) (entry_program lp c j h l)) ∙ (solution.meets c h ∙ ap (λ e. total *ℤ e) (sym (entry_right lp c h)));
  }

  -- The costs of weighted payoffs.
  costs_in : ℤ → ℤ → ℕ → ℤ
  costs_in a b j = a *ℤ start_entry lp (length lp.rows) j +ℤ b *ℤ start_entry lp (length lp.rows + 1) j

  negated_in : (a b : ℤ) (j : ℕ) → j < lp.cols → costs_in a b j ≡ neg_ℤ (weighted lp a b j)
  unfolding costs_in
  negated_in a b j l = rw (first_program lp j l, second_program lp j l) (negated a b (payoff_of One lp j) (payoff_of Two lp j))
    where
      negated : (a b p q : ℤ) → a *ℤ neg_ℤ p +ℤ b *ℤ neg_ℤ q ≡ neg_ℤ (a *ℤ p +ℤ b *ℤ q)
      negated a b p q = simp ring_laws (omega (arith, linear))

  free_in : (a b : ℤ) → costs_in a b (side lp) ≡ pos 0
  unfolding costs_in
  free_in a b = rw (first_right lp, second_right lp) (simp ring_laws (omega (arith, linear)))

  module _ (t : Content) (ready : IsReady lp t) where
    abbrev row_in : ℤ → ℤ → ℕ → ℤ
    row_in a b j = a *ℤ t.entry (length lp.rows) j +ℤ b *ℤ t.entry (length lp.rows + 1) j

    priced_in : (a b : ℤ) → IsCostRow (length lp.rows) (width lp) (costs_in a b) t.basic t.denom t.entry (row_in a b)
    unfolding costs_in
    priced_in a b = let whole = whole_of lp t ready.open ready.reached in costs_combined a b
        (whole.costs (length lp.rows) (omega arith) (omega arith)) (whole.costs (length lp.rows + 1) (omega arith) (omega arith))

    ends : (k : ℕ) → k < length lp.rows → (t.basic k < lp.cols) ⊎ (t.entry k (side lp) ≡ pos 0)
    ends k h = ⊎_elim (λ (low : t.basic k < lp.cols). inl low) (λ (high : lp.cols ≤ t.basic k). inr (ready.inert k h high).level) (cases_lt (t.basic k) lp.cols)

    -- The tableau's own solution.
    own : ℕ → ℤ
    own = basic_value (length lp.rows) t.basic (λ k. t.entry k (side lp))

    own_solution : IsSolution lp t.denom own
    unfolding own
    own_solution = solution_of lp t.denom (basic_value (length lp.rows) t.basic (λ k. t.entry k (side lp)))
        (basic_solution (whole_of lp t ready.open ready.reached).program (side lp) lp.cols (omega arith) ready.feasible ends)

    own_pays : (a b : ℤ) → a *ℤ paid lp One own +ℤ b *ℤ paid lp Two own ≡ row_in a b (side lp)
    unfolding own
    own_pays a b =
        sym (weighted_sum lp a b (basic_value (length lp.rows) t.basic (λ k. t.entry k (side lp))))
        ∙ basic_payoff (whole_of lp t ready.open ready.reached).program (priced_in a b) lp.cols (side lp) (omega arith) (omega arith)
        (weighted lp a b) (negated_in a b) (free_in a b) ready.feasible ends

    module _ (dir : Dir) (optimal : IsOptimal t (length lp.rows) lp.cols dir) where
      level_or_above : (j : ℕ) → j < lp.cols → pos 0 ≤ℤ row_in dir.a dir.b j
      level_or_above j l = ⊎_elim (λ (low : row_in dir.a dir.b j <ℤ pos 0). absurd (optimal j l (inl low))) (λ (h : pos 0 ≤ℤ row_in dir.a dir.b j). h) (below_or_at_least (row_in dir.a dir.b j) (pos 0))

      then_left : (j : ℕ) → j < lp.cols → row_in dir.a dir.b j ≡ pos 0 → pos 0 ≤ℤ row_in (neg_ℤ dir.b) dir.a j
      then_left j l level =
          let is = turned dir.a dir.b (t.entry (length lp.rows) j) (t.entry (length lp.rows + 1) j) in
          ⊎_elim (λ (low : reduced_left t (length lp.rows) dir j <ℤ pos 0). absurd (optimal j l (inr (level, low)))) (λ (h : pos 0 ≤ℤ reduced_left t (length lp.rows) dir j). subst (λ e. pos 0 ≤ℤ e) (sym is) h) (below_or_at_least (reduced_left t (length lp.rows) dir j) (pos 0))

      along : (total : ℤ) (x : ℕ → ℤ) → IsSolution lp total x → (t.denom *ℤ paid_along lp dir x) ≤ℤ (total *ℤ paid_along lp dir own)
      along total x solution =
          let most = at_most_right_side (whole_of lp t ready.open ready.reached).program (priced_in dir.a dir.b) lp.cols (side lp)
          (omega arith) (omega arith) (weighted lp dir.a dir.b) (negated_in dir.a dir.b) (free_in dir.a dir.b) total x
          (linear_solution total x solution) level_or_above in
          rw (own_pays dir.a dir.b, ← weighted_sum lp dir.a dir.b x) most

      left : (total : ℤ) (x : ℕ → ℤ) → IsSolution lp total x → t.denom *ℤ paid_along lp dir x ≡ total *ℤ paid_along lp dir own →
          (t.denom *ℤ paid_left lp dir x) ≤ℤ (total *ℤ paid_left lp dir own)
      left total x solution same =
          let level = ap (λ e. t.denom *ℤ e) (weighted_sum lp dir.a dir.b x) ∙ (same ∙ ap (λ e. total *ℤ e) (own_pays dir.a dir.b)) in
          let most = second_at_most (whole_of lp t ready.open ready.reached).program (priced_in dir.a dir.b)
          (priced_in (neg_ℤ dir.b) dir.a) lp.cols (side lp) (omega arith) (omega arith) (weighted lp dir.a dir.b)
          (weighted lp (neg_ℤ dir.b) dir.a)
          (negated_in dir.a dir.b) (negated_in (neg_ℤ dir.b) dir.a) (free_in dir.a dir.b) (free_in (neg_ℤ dir.b) dir.a) total x
          (linear_solution total x solution) level_or_above then_left level in
          rw (
            ← turned dir.a dir.b (paid lp One own) (paid lp Two own),
            ← turned dir.a dir.b (paid lp One x) (paid lp Two x),
            own_pays
                (neg_ℤ dir.b) dir.a,
            ← weighted_sum lp (neg_ℤ dir.b) dir.a x,
          ) most

      pub greatest : IsGreatest lp t dir
      greatest = record {
        own = own;
        solution = own_solution;
        own_along = own_pays dir.a dir.b;
        own_left = sym (turned dir.a dir.b (paid lp One own) (paid lp Two own)) ∙
            (own_pays (neg_ℤ dir.b) dir.a ∙ turned dir.a dir.b (t.entry (length lp.rows) (side lp))
            (t.entry (length lp.rows + 1) (side lp)));
        along = λ total x positive solution. along total x solution;
        left = λ total x positive solution same. left total x solution same;
      }
