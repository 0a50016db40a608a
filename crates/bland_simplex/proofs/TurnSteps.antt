-- Turning. The two objectives of a direction are one cost row: a large multiple of the reduced costs in the direction and those in
-- its left turn, so that a column improves exactly where that row is negative. Where payoffs are bounded such a column has a row
-- for the ratio rule, and each turn is a step of Bland's rule over that row.
use Rattle.std.proofs.Common.{◌≡◌, ◌≢◌, ◌⊎◌, ⊎_elim, inl, inr, ℕ, suc, ◌+◌, ◌^◌, ◌<◌, ◌≤◌, ℤ, pos, negsuc, ◌+ℤ◌, ◌-ℤ◌, ◌*ℤ◌, ◌≤ℤ◌, ◌<ℤ◌, neg_ℤ, unsigned_abs, length, sym, ap, ap₂, subst, ◌∙◌, arith}
use Rattle.std.proofs.lemmas.Bool.{cases_eq, cases_lt}
use Rattle.std.proofs.lemmas.Int.{ints}
use Rattle.exact_algebra.proofs.Order.{below_or_at_least, times_at_most, times_not_positive}
use Rattle.exact_algebra.proofs.RingLaws.{neg_ℤ-*ℤ, *ℤ-neg_ℤ, neg_ℤ-neg_ℤ}
use Rattle.exact_algebra.proofs.RingTactic.{ring_laws, linear}
use Rattle.exact_algebra.proofs.Sums.{sum_to-same, sum_to-add, sum_to-scale}
use Rattle.exact_algebra.specs.Sums.{sum_to}
use Rattle.corr_game.specs.declared.sides.Side.TheVariants.{One, Two}
use Rattle.corr_num.specs.Narrow.{Narrow}
use Rattle.corr_num.proofs.MagnitudeBounds.{narrow_products_difference}
use Rattle.exact_linear.proofs.BlandMeasure.{bland_measure, bland_falls}
use Rattle.exact_linear.proofs.CostRows.{costs_combined}
use Rattle.exact_linear.proofs.InertRows.{inert_kept}
use Rattle.exact_linear.proofs.Rays.{some_ratio}
use Rattle.exact_linear.specs.BlandRule.{IsBlandStep}
use Rattle.exact_linear.specs.Content.{IsPricedTableau}
use Rattle.exact_linear.specs.Content as linear_content
use Rattle.exact_linear.specs.Simplex as simplex
use Rattle.exact_linear.specs.Simplex.{IsFeasible, IsLeastRatio, IsInert}
use Rattle.exact_linear.specs.Tableau.{IsCostRow, column}
use Rattle.lp_form.specs.Program.{LpView, coefficient, payoff_of}
use Rattle.lp_form.specs.Solutions.{IsSolution, paid, IsBoundedBy, HasBoundedPayoffs}
use Rattle.int_tableau.specs.Content.{Content, IsTableau}
use Rattle.int_tableau.specs.Pivot.{IsPivoted}
use Rattle.int_tableau.specs.Start.{start_entry}
use Rattle.plane_hull.specs.declared.directions.Dir.{Dir}
use Rattle.bland_simplex.proofs.Orders.{rank_once}
use Rattle.bland_simplex.proofs.StartEntries.{entry_program, entry_right, first_program, first_right, second_program, second_right}
use Rattle.bland_simplex.proofs.Wholes.{width, side, whole_of, pivot_at, moves_after, way_after}
use Rattle.bland_simplex.specs.Improving.{reduced, reduced_left, Improves}
use Rattle.bland_simplex.specs.Open.{IsOpen}
use Rattle.bland_simplex.specs.Order.{rank, IsFirst, IsLeaving}
use Rattle.bland_simplex.specs.Ready.{IsReady}

-- ---- one row for both objectives

-- The weight of the direction against its left turn.
heavy : ℕ
heavy = 2 ^ 125

left_below : (a b first second : ℤ) → Narrow a → Narrow b → Narrow first → Narrow second → unsigned_abs (a *ℤ second -ℤ b *ℤ first) < heavy
unfolding heavy
left_below a b first second na nb nf ns = narrow_products_difference a second b first na ns nb nf

negative_sum : (w : ℕ) (u v : ℤ) → unsigned_abs v < w → (u <ℤ pos 0) ⊎ ((u ≡ pos 0) × (v <ℤ pos 0)) → (pos w *ℤ u +ℤ v) <ℤ pos 0
negative_sum w u v small (inl low) =
    let steep : u ≤ℤ neg_ℤ (pos 1) = omega (arith, ints) in
    let product = times_at_most (pos w) (omega (arith, ints)) steep in
    let unit : pos w *ℤ neg_ℤ (pos 1) ≡ neg_ℤ (pos w) = omega (arith, linear) in
    omega (arith, linear)
negative_sum w u v small (inr (level, low)) = let none : pos w *ℤ u ≡ pos 0 = rw level (omega (arith, linear)) in omega (arith, linear)

sum_not_negative : (w : ℕ) (u v : ℤ) → unsigned_abs v < w → ((u <ℤ pos 0) ⊎ ((u ≡ pos 0) × (v <ℤ pos 0)) → ⊥) → pos 0 ≤ℤ (pos w *ℤ u +ℤ v)
sum_not_negative w u v small none = ⊎_elim (λ (h : u <ℤ pos 0). absurd (none (inl h))) (λ (h : pos 0 ≤ℤ u). ⊎_elim (λ (g : pos 0 <ℤ u). above g) (λ (g : u ≤ℤ pos 0). level (omega (arith, ints))) (below_or_at_least (pos 0) u)) (below_or_at_least u (pos 0))
  where
    above : pos 0 <ℤ u → pos 0 ≤ℤ (pos w *ℤ u +ℤ v)
    above g =
        let steep : pos 1 ≤ℤ u = omega (arith, ints) in
        let product = times_at_most (pos w) (omega (arith, ints)) steep in
        let unit : pos w *ℤ pos 1 ≡ pos w = omega (arith, linear) in
        omega (arith, linear)

    level : u ≡ pos 0 → pos 0 ≤ℤ (pos w *ℤ u +ℤ v)
    level e = ⊎_elim (λ (h : v <ℤ pos 0). absurd (none (inr (e, h)))) (λ (h : pos 0 ≤ℤ v). let product : pos w *ℤ u ≡ pos 0 = rw e (omega (arith, linear)) in omega (arith, linear)) (below_or_at_least v (pos 0))

-- The weights of First and Second in that row.
by_first : Dir → ℤ
by_first dir = pos heavy *ℤ dir.a -ℤ dir.b

by_second : Dir → ℤ
by_second dir = pos heavy *ℤ dir.b +ℤ dir.a

regroup : (w a b u v : ℤ) → (w *ℤ a -ℤ b) *ℤ u +ℤ (w *ℤ b +ℤ a) *ℤ v ≡ w *ℤ (a *ℤ u +ℤ b *ℤ v) +ℤ (a *ℤ v -ℤ b *ℤ u)
regroup w a b u v = simp ring_laws (omega (arith, linear))

-- The row in which both objectives are one.
turning_row : Content → ℕ → Dir → ℕ → ℤ
turning_row t rows dir j = by_first dir *ℤ t.entry rows j +ℤ by_second dir *ℤ t.entry (rows + 1) j

turning_row_is : (t : Content) (rows : ℕ) (dir : Dir) (j : ℕ) →
    turning_row t rows dir j ≡ pos heavy *ℤ reduced t rows dir j +ℤ reduced_left t rows dir j
unfolding turning_row by_first by_second
turning_row_is t rows dir j = regroup (pos heavy) dir.a dir.b (t.entry rows j) (t.entry (rows + 1) j)

module _ (rows cols : ℕ) (t : Content) (o : IsOpen rows cols t) (dir : Dir) (j : ℕ) (inside : j < cols + rows + 1) where
  small : unsigned_abs (reduced_left t rows dir j) < heavy
  small = left_below dir.a dir.b (t.entry rows j) (t.entry (rows + 1) j) dir.a_narrow dir.b_narrow
      (o.rules.narrow o.fresh rows j (omega (arith, o.rows_are)) (omega (arith, o.cols_are)))
      (o.rules.narrow o.fresh (rows + 1) j (omega (arith, o.rows_are)) (omega (arith, o.cols_are)))

  row_falls : Improves t rows dir j → turning_row t rows dir j <ℤ pos 0
  row_falls improves = subst (λ x. x <ℤ pos 0) (sym (turning_row_is t rows dir j))
      (negative_sum heavy (reduced t rows dir j) (reduced_left t rows dir j) small improves)

  row_stays : (Improves t rows dir j → ⊥) → pos 0 ≤ℤ turning_row t rows dir j
  row_stays none = subst (λ x. pos 0 ≤ℤ x) (sym (turning_row_is t rows dir j))
      (sum_not_negative heavy (reduced t rows dir j) (reduced_left t rows dir j) small none)

-- ---- payoffs are bounded in each weighting

-- A multiple of a number between a bound and its opposite.
multiple_bound : (a bound x : ℤ) → neg_ℤ bound ≤ℤ x → x ≤ℤ bound → (a *ℤ x) ≤ℤ (pos (unsigned_abs a) *ℤ bound)
multiple_bound (pos n) bound x low high = times_at_most (pos n) (omega (arith, ints)) high
multiple_bound (negsuc n) bound x low high =
    let product = times_not_positive (negsuc n) (omega (arith, ints)) low in
    let turned : negsuc n *ℤ neg_ℤ bound ≡ pos (suc n) *ℤ bound = opposite n bound in
    omega (arith, linear)
  where
    opposite : (n : ℕ) (bound : ℤ) → negsuc n *ℤ neg_ℤ bound ≡ pos (suc n) *ℤ bound
    opposite n bound = neg_ℤ-*ℤ (pos (suc n)) (neg_ℤ bound) ∙ (ap neg_ℤ (*ℤ-neg_ℤ (pos (suc n)) bound) ∙ neg_ℤ-neg_ℤ (pos (suc n) *ℤ bound))

module _ (lp : LpView) where
  pub solution_of : (total : ℤ) (x : ℕ → ℤ) → simplex.IsSolution (length lp.rows) lp.cols (side lp) (column (start_entry lp)) total x →
      IsSolution lp total x
  solution_of total x solution = record {
    not_negative = solution.positive;
    meets = λ row h. sum_to-same lp.cols (λ col. coefficient lp row col *ℤ x col) (λ j. start_entry lp row j *ℤ x j)
        (λ j l. ap (λ e. e *ℤ x j) (sym (entry_program lp row j h l))) ∙
        (solution.makes row h ∙ ap (λ e. total *ℤ e) (entry_right lp row h));
  }

  -- The payoff of a column in a weighting.
  abbrev pub weighted : ℤ → ℤ → ℕ → ℤ
  weighted a b j = a *ℤ payoff_of One lp j +ℤ b *ℤ payoff_of Two lp j

  pub weighted_sum : (a b : ℤ) (x : ℕ → ℤ) → sum_to lp.cols (λ j. weighted a b j *ℤ x j) ≡ a *ℤ paid lp One x +ℤ b *ℤ paid lp Two x
  weighted_sum a b x =
      sum_to-same lp.cols (λ j. weighted a b j *ℤ x j) (λ j. a *ℤ (payoff_of One lp j *ℤ x j) +ℤ b *ℤ (payoff_of Two lp j *ℤ x j))
      (λ j l. parted a b (payoff_of One lp j) (payoff_of Two lp j) (x j))
      ∙ (sum_to-add lp.cols (λ j. a *ℤ (payoff_of One lp j *ℤ x j)) (λ j. b *ℤ (payoff_of Two lp j *ℤ x j))
      ∙ ap₂ (λ u v. u +ℤ v) (sum_to-scale lp.cols a (λ j. payoff_of One lp j *ℤ x j))
      (sum_to-scale lp.cols b (λ j. payoff_of Two lp j *ℤ x j)))
    where
      parted : (a b p q x : ℤ) → (a *ℤ p +ℤ b *ℤ q) *ℤ x ≡ a *ℤ (p *ℤ x) +ℤ b *ℤ (q *ℤ x)
      parted a b p q x = simp ring_laws (omega (arith, linear))

  weighted_bound : (a b bound total : ℤ) (x : ℕ → ℤ) → pos 0 <ℤ total → IsBoundedBy lp bound → IsSolution lp total x →
      sum_to lp.cols (λ j. weighted a b j *ℤ x j) ≤ℤ (pos (unsigned_abs a) *ℤ (bound *ℤ total) +ℤ pos (unsigned_abs b) *ℤ (bound *ℤ total))
  weighted_bound a b bound total x positive bounded solution =
      let one = multiple_bound a (bound *ℤ total) (paid lp One x) (bounded.at_least One total x positive solution)
      (bounded.at_most One total x positive solution) in
      let two = multiple_bound b (bound *ℤ total) (paid lp Two x) (bounded.at_least Two total x positive solution)
      (bounded.at_most Two total x positive solution) in
      subst (λ e. e ≤ℤ (pos (unsigned_abs a) *ℤ (bound *ℤ total) +ℤ pos (unsigned_abs b) *ℤ (bound *ℤ total))) (sym (weighted_sum a b x))
      (omega (arith, linear))

  -- The costs of the row in which both objectives are one.
  turning_costs : Dir → ℕ → ℤ
  turning_costs dir j = by_first dir *ℤ start_entry lp (length lp.rows) j +ℤ by_second dir *ℤ start_entry lp (length lp.rows + 1) j

  costs_negated : (dir : Dir) (j : ℕ) → j < lp.cols → turning_costs dir j ≡ neg_ℤ (weighted (by_first dir) (by_second dir) j)
  unfolding turning_costs
  costs_negated dir j l = rw (first_program lp j l, second_program lp j l)
      (negated (by_first dir) (by_second dir) (payoff_of One lp j) (payoff_of Two lp j))
    where
      negated : (a b p q : ℤ) → a *ℤ neg_ℤ p +ℤ b *ℤ neg_ℤ q ≡ neg_ℤ (a *ℤ p +ℤ b *ℤ q)
      negated a b p q = simp ring_laws (omega (arith, linear))

  costs_free : (dir : Dir) → turning_costs dir (side lp) ≡ pos 0
  unfolding turning_costs
  costs_free dir = rw (first_right lp, second_right lp) (nothing (by_first dir) (by_second dir))
    where
      nothing : (a b : ℤ) → a *ℤ pos 0 +ℤ b *ℤ pos 0 ≡ pos 0
      nothing a b = simp ring_laws (omega (arith, linear))

  priced_row : (t : Content) (dir : Dir) → IsReady lp t →
      IsCostRow (length lp.rows) (width lp) (turning_costs dir) t.basic t.denom t.entry (turning_row t (length lp.rows) dir)
  unfolding turning_costs turning_row
  priced_row t dir ready =
      let whole = whole_of lp t ready.open ready.reached in
      costs_combined (by_first dir) (by_second dir) (whole.costs (length lp.rows) (omega arith) (omega arith))
      (whole.costs (length lp.rows + 1) (omega arith) (omega arith))

  -- A row for the ratio rule.
  pub turning_ratio : (t : Content) (dir : Dir) (col : ℕ) → IsReady lp t → HasBoundedPayoffs lp → col < lp.cols →
      Improves t (length lp.rows) dir col → (row : ℕ) × (row < length lp.rows) × (pos 0 <ℤ t.entry row col)
  turning_ratio t dir col ready (bound, bounded) l improves =
      let whole = whole_of lp t ready.open ready.reached in
      some_ratio whole.program (priced_row t dir ready) lp.cols (side lp) (omega arith) (omega arith)
      (weighted (by_first dir) (by_second dir)) (costs_negated dir) (costs_free dir) ready.feasible col l
      (row_falls (length lp.rows) lp.cols t ready.open dir col (omega arith) improves) ends
      (pos (unsigned_abs (by_first dir)) *ℤ (bound *ℤ t.denom) +ℤ pos (unsigned_abs (by_second dir)) *ℤ (bound *ℤ t.denom))
      (λ x solution. weighted_bound (by_first dir) (by_second dir) bound t.denom x whole.program.positive bounded
      (solution_of t.denom x solution))
    where
      ends : (k : ℕ) → k < length lp.rows → (t.basic k < lp.cols) ⊎ ((t.entry k (side lp) ≡ pos 0) × (t.entry k col ≡ pos 0))
      ends k h = ⊎_elim (λ (low : t.basic k < lp.cols). inl low) (λ (high : lp.cols ≤ t.basic k). let inert = ready.inert k h high in inr (inert.level, inert.empty col l)) (cases_lt (t.basic k) lp.cols)

  -- A turn leaves a ready tableau.
  pub ready_after : (old new : Content) (row col : ℕ) → IsReady lp old → IsTableau new → IsPivoted old new row col → col < lp.cols →
      IsLeastRatio (length lp.rows) (side lp) old.entry row col → IsReady lp new
  ready_after old new row col ready rules pivoted program ratio =
      let way = way_after lp old new row col record { «open» = ready.open; reached = ready.reached; feasible = ready.feasible } rules
      pivoted (omega arith) ratio in
      record { «open» = way.open; reached = way.reached; feasible = way.feasible; inert = inert }
    where
      inert : (k : ℕ) → k < length lp.rows → lp.cols ≤ new.basic k → IsInert lp.cols (side lp) new.entry k
      inert k h high = ⊎_elim
          (λ (e : k ≡ row). let enters = ap (λ i. new.basic i) e ∙ pivoted.basis.enters in absurd (omega arith))
          (λ (d : k ≢ row).
          let same = pivoted.basis.others k d in
          inert_kept lp.cols (side lp) k (pivot_at lp old new row col ready.open pivoted)
          (whole_of lp old ready.open ready.reached).program.positive (omega arith) (omega arith) program (omega arith) d
          (ready.inert k h (omega arith)))
          (cases_eq k row)

  -- ---- the end by Bland's rule

  abbrev turned_content : Dir → Content → linear_content.Content
  turned_content dir t = record { basis = t.basic; den = t.denom; matrix = t.entry; row = turning_row t (length lp.rows) dir }

  -- How many turns are still taken.
  pub turns_left : Dir → Content → ℕ
  turns_left dir t = bland_measure (length lp.rows) (width lp) lp.cols (side lp) (rank lp.cols) (turned_content dir t)

  priced : (t : Content) (dir : Dir) → IsReady lp t →
      IsPricedTableau (length lp.rows) (width lp) (side lp) (column (start_entry lp)) (turning_costs dir) (turned_content dir t)
  priced t dir ready = record {
    tableau = (whole_of lp t ready.open ready.reached).program;
    priced = priced_row t dir ready;
    feasible =
        ready.feasible;
  }

  pub turning_falls : (old new : Content) (dir : Dir) (row col : ℕ) → IsReady lp old → IsReady lp new → IsPivoted old new row col →
      IsFirst lp.cols lp.cols (Improves old (length lp.rows) dir) col → IsLeaving (length lp.rows) lp.cols (side lp) old col row →
      turns_left dir new < turns_left dir old
  unfolding turns_left
  turning_falls old new dir row col ready after pivoted first leaving =
      let inside = first.offered_is in
      let step : IsBlandStep (length lp.rows) lp.cols (side lp) (rank lp.cols) old.basic old.entry (turning_row old (length lp.rows) dir)
      row col = record {
        offered = inside;
        improves = row_falls (length lp.rows) lp.cols old ready.open dir col (omega arith) first.may;
        first_column = λ j h l. row_stays (length lp.rows) lp.cols old ready.open dir j (omega arith) (first.before j h l);
        ratio = leaving.ratio;
        first_row = leaving.first;
      } in
      bland_falls (length lp.rows) (width lp) lp.cols (side lp) (rank lp.cols) (column (start_entry lp)) (turning_costs dir) (omega arith)
      (omega arith) (λ i j h l. rank_once lp.cols i j)
      (turned_content dir old) (turned_content dir new) row col (priced old dir ready) (priced new dir after) step
      (λ k h. moves_after lp old new row col pivoted k)
