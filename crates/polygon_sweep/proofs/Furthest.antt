-- The corner that a tableau reaches: no corner pays more along a direction that the tableau bounds; and where the tableau is optimal for
-- the direction, of the corners that pay as much none pays more along its left turn.
use Rattle.std.proofs.Common.{◌≡◌, ℕ, ◌+◌, ℤ, pos, ◌+ℤ◌, ◌-ℤ◌, ◌*ℤ◌, ◌≤ℤ◌, ◌<ℤ◌, neg_ℤ, inl, length, sym, ap, ◌∙◌, arith}
use Rattle.std.proofs.lemmas.Int.{ints}
use Rattle.exact_algebra.proofs.Fractions.{fraction_trans, fraction_trans_same}
use Rattle.exact_algebra.proofs.RingLaws.{*ℤ_comm}
use Rattle.exact_algebra.proofs.RingTactic.{ring_laws, linear}
use Rattle.exact_algebra.proofs.Sums.{sum_to-same}
use Rattle.corr_game.specs.declared.sides.Side.TheVariants.{One, Two}
use Rattle.exact_linear.proofs.CostRows.{costs_combined}
use Rattle.exact_linear.proofs.Optimality.{at_most_right_side}
use Rattle.exact_linear.specs.Simplex as simplex
use Rattle.exact_linear.specs.Tableau.{column}
use Rattle.lp_form.specs.Program.{LpView, coefficient, payoff_of}
use Rattle.lp_form.specs.Solutions.{IsSolution, paid}
use Rattle.int_tableau.specs.Content.{Content}
use Rattle.int_tableau.specs.Start.{start_entry}
use Rattle.plane_hull.specs.declared.directions.Dir.{Dir}
use Rattle.bland_simplex.proofs.Optima.{greatest}
use Rattle.bland_simplex.proofs.StartEntries.{entry_program, entry_right, first_program, first_right, second_program, second_right}
use Rattle.bland_simplex.proofs.TurnSteps.{weighted, weighted_sum}
use Rattle.bland_simplex.proofs.Wholes.{side, whole_of}
use Rattle.bland_simplex.specs.Greatest.{paid_along}
use Rattle.bland_simplex.specs.Improving.{IsOptimal, reduced, reduced_left}
use Rattle.bland_simplex.specs.Ready.{IsReady}
use Rattle.polygon_sweep.proofs.Angles.{stays_over}
use Rattle.polygon_sweep.specs.declared.corners.SweptCorner.{SweptCorner}
use Rattle.polygon_sweep.specs.Swept.{IsBounding, IsCornerOf, Reaches, number_in}

-- what a corner pays along a direction, and along its left turn
abbrev pub pays : Dir → SweptCorner → ℤ
pays dir corner = dir.a *ℤ corner.one +ℤ dir.b *ℤ corner.two

abbrev pub pays_left : Dir → SweptCorner → ℤ
pays_left dir corner = dir.a *ℤ corner.two -ℤ dir.b *ℤ corner.one

-- no corner of the program pays more along the direction
pub record IsFurthest (lp : LpView) (dir : Dir) (corner : SweptCorner) : Type 0 where
  pub along : (other : SweptCorner) → IsCornerOf lp other → (pays dir other *ℤ corner.den) ≤ℤ (pays dir corner *ℤ other.den)

-- and of those that pay as much none pays more along its left turn
pub record IsFurthestLeft (lp : LpView) (dir : Dir) (corner : SweptCorner) : Type 0 where
  pub furthest : IsFurthest lp dir corner
  pub left : (other : SweptCorner) → IsCornerOf lp other → pays dir other *ℤ corner.den ≡ pays dir corner *ℤ other.den →
      (pays_left dir other *ℤ corner.den) ≤ℤ (pays_left dir corner *ℤ other.den)

weighs : (a b u v p q f d : ℤ) → u *ℤ f ≡ p *ℤ d → v *ℤ f ≡ q *ℤ d → (a *ℤ u +ℤ b *ℤ v) *ℤ f ≡ (a *ℤ p +ℤ b *ℤ q) *ℤ d
weighs a b u v p q f d one two =
    let first : a *ℤ (u *ℤ f) ≡ a *ℤ (p *ℤ d) = ap (λ e. a *ℤ e) one in
    let second : b *ℤ (v *ℤ f) ≡ b *ℤ (q *ℤ d) = ap (λ e. b *ℤ e) two in
    simp ring_laws (omega (arith, linear))

weighs_left : (a b u v p q f d : ℤ) → u *ℤ f ≡ p *ℤ d → v *ℤ f ≡ q *ℤ d → (a *ℤ v -ℤ b *ℤ u) *ℤ f ≡ (a *ℤ q -ℤ b *ℤ p) *ℤ d
weighs_left a b u v p q f d one two =
    let first : a *ℤ (v *ℤ f) ≡ a *ℤ (q *ℤ d) = ap (λ e. a *ℤ e) two in
    let second : b *ℤ (u *ℤ f) ≡ b *ℤ (p *ℤ d) = ap (λ e. b *ℤ e) one in
    simp ring_laws (omega (arith, linear))

-- v / o is at most u / d, which is w / f
at_most_same : (v o u d w f : ℤ) → pos 0 <ℤ o → pos 0 <ℤ d → pos 0 <ℤ f → (d *ℤ v) ≤ℤ (o *ℤ u) → u *ℤ f ≡ w *ℤ d → (v *ℤ f) ≤ℤ (w *ℤ o)
at_most_same v o u d w f over_o over_d over_f low same =
    fraction_trans v o u d w f over_o over_d over_f (rw (*ℤ_comm v d, *ℤ_comm u o) low) (omega (arith, ints))

not_nothing : (d : ℤ) → pos 0 <ℤ d → d ≡ pos 0 → ⊥
not_nothing d over none = omega (arith, ints)

module _ (lp : LpView) (t : Content) (ready : IsReady lp t) where
  denom_over : pos 0 <ℤ t.denom
  denom_over = (whole_of lp t ready.open ready.reached).program.positive

  linear_solution : (total : ℤ) (x : ℕ → ℤ) → IsSolution lp total x →
      simplex.IsSolution (length lp.rows) lp.cols (side lp) (column (start_entry lp)) total x
  linear_solution total x solution = record {
    positive = solution.not_negative;
    makes = λ c h. sum_to-same lp.cols (λ j. start_entry lp c j *ℤ x j) (λ j. coefficient lp c j *ℤ x j)
        (λ j l. ap (λ e. e *ℤ x j) (entry_program lp c j h l)) ∙ (solution.meets c h ∙ ap (λ e. total *ℤ e) (sym (entry_right lp c h)));
  }

  negated : (a b p q : ℤ) → a *ℤ neg_ℤ p +ℤ b *ℤ neg_ℤ q ≡ neg_ℤ (a *ℤ p +ℤ b *ℤ q)
  negated a b p q = simp ring_laws (omega (arith, linear))

  -- no solution pays more along a direction that the tableau bounds than its right sides say
  bounded : (dir : Dir) → IsBounding t (length lp.rows) lp.cols dir → (total : ℤ) (x : ℕ → ℤ) → IsSolution lp total x
      → (t.denom *ℤ (dir.a *ℤ paid lp One x +ℤ dir.b *ℤ paid lp Two x)) ≤ℤ (total *ℤ reduced t (length lp.rows) dir (side lp))
  bounded dir bounding total x solution =
      let whole = whole_of lp t ready.open ready.reached in
      let priced = costs_combined dir.a dir.b (whole.costs (length lp.rows) (omega arith) (omega arith))
      (whole.costs (length lp.rows + 1) (omega arith) (omega arith)) in
      rw (← weighted_sum lp dir.a dir.b x)
      (at_most_right_side whole.program priced lp.cols (side lp) (omega arith) (omega arith) (weighted lp dir.a dir.b)
      (λ j l. rw (first_program lp j l, second_program lp j l) (negated dir.a dir.b (payoff_of One lp j) (payoff_of Two lp j)))
      (rw (first_right lp, second_right lp) (simp ring_laws (omega (arith, linear))))
      total x (linear_solution total x solution) bounding)

  module _ (corner : SweptCorner) (reached : Reaches t (length lp.rows) (side lp) corner) (over : pos 0 <ℤ corner.den) where
    own_along : (dir : Dir) → reduced t (length lp.rows) dir (side lp) *ℤ corner.den ≡ pays dir corner *ℤ t.denom
    own_along dir = weighs dir.a dir.b _ _ _ _ corner.den t.denom reached.one reached.two

    own_left : (dir : Dir) → reduced_left t (length lp.rows) dir (side lp) *ℤ corner.den ≡ pays_left dir corner *ℤ t.denom
    own_left dir = weighs_left dir.a dir.b _ _ _ _ corner.den t.denom reached.one reached.two

    pub furthest : (dir : Dir) → IsBounding t (length lp.rows) lp.cols dir → IsFurthest lp dir corner
    furthest dir bounding = record {
      along = λ other is.
          let most = bounded dir bounding other.den (number_in other.values) is.solution in
          let low = rw (← is.pays_one, ← is.pays_two) at most in
          at_most_same (pays dir other) other.den (reduced t (length lp.rows) dir (side lp)) t.denom (pays dir corner) corner.den
          is.positive denom_over over low (own_along dir);
    }

    pub furthest_left : (dir : Dir) → IsOptimal t (length lp.rows) lp.cols dir → IsFurthestLeft lp dir corner
    furthest_left dir optimal = record {
      furthest = furthest dir (λ col l. stays_over _ (λ low. optimal col l (inl low)));
      left = λ other is same.
          let top = greatest lp t ready dir optimal in
          let level = fraction_trans_same (pays dir other) other.den (pays dir corner) corner.den
          (reduced t (length lp.rows) dir (side lp)) t.denom (not_nothing corner.den over) same (sym (own_along dir)) in
          let level_too : t.denom *ℤ paid_along lp dir (number_in other.values) ≡ other.den *ℤ paid_along lp dir top.own = rw
          (top.own_along, ← is.pays_one, ← is.pays_two) (*ℤ_comm t.denom (pays dir other) ∙ (level ∙ *ℤ_comm _ other.den)) in
          let most = top.left other.den (number_in other.values) is.positive is.solution level_too in
          let low = rw (top.own_left, ← is.pays_one, ← is.pays_two) at most in
          at_most_same (pays_left dir other) other.den (reduced_left t (length lp.rows) dir (side lp)) t.denom (pays_left dir corner)
          corner.den is.positive denom_over over low (own_left dir);
    }
