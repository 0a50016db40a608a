-- The first phase. A column that is negative in Phase has a row for the ratio rule; each turn is a step of Bland's rule over Phase;
-- and where Phase's right side is 0, the rows with basic artificial columns have right sides of 0, also while such columns are
-- driven out.
use Rattle.std.proofs.Common.{◌≡◌, ◌≢◌, ⊎_elim, ℕ, ◌+◌, ◌-◌, ◌<◌, ◌≤◌, ℤ, pos, ◌+ℤ◌, ◌*ℤ◌, ◌≤ℤ◌, ◌<ℤ◌, neg_ℤ, length, refl, sym, ap, subst, ◌∙◌, arith}
use Rattle.std.proofs.lemmas.Bool.{cases_eq, cases_lt}
use Rattle.std.proofs.lemmas.Int.{ints}
use lib.Signed.{≤ℤ_refl}
use Rattle.exact_algebra.proofs.Order.{below_or_at_least, cancel_positive}
use Rattle.exact_algebra.proofs.RingLaws.{*ℤ_comm, *ℤ-zero, zero-*ℤ}
use Rattle.exact_algebra.proofs.RingTactic.{linear}
use Rattle.exact_algebra.proofs.Sums.{sum_to-nothing}
use Rattle.exact_algebra.specs.Sums.{sum_to}
use Rattle.exact_linear.proofs.BlandMeasure.{bland_measure, bland_falls}
use Rattle.exact_linear.proofs.Phase.{phase_done, phase_row}
use Rattle.exact_linear.proofs.SimplexSteps.{level_step}
use Rattle.exact_linear.proofs.Turns.{turn_of}
use Rattle.exact_linear.specs.BlandRule.{IsBlandStep}
use Rattle.exact_linear.specs.Content.{IsPricedTableau}
use Rattle.exact_linear.specs.Content as linear_content
use Rattle.exact_linear.specs.Pivot.{pivot_row}
use Rattle.exact_linear.specs.Tableau.{column}
use Rattle.lp_form.specs.Program.{LpView}
use Rattle.int_tableau.specs.Content.{Content, IsTableau, right_side}
use Rattle.int_tableau.specs.Pivot.{IsPivoted}
use Rattle.int_tableau.specs.Start.{start_entry}
use Rattle.bland_simplex.proofs.Counting.{count_behind, count_falls}
use Rattle.bland_simplex.proofs.Orders.{rank_once}
use Rattle.bland_simplex.proofs.PhaseRows.{some_phase_row}
use Rattle.bland_simplex.proofs.StartEntries.{phase_weight, weight_program, weight_right, weight_artificial}
use Rattle.bland_simplex.proofs.Wholes.{width, side, whole_of, pivot_at, open_after, reached_after, moves_after}
use Rattle.bland_simplex.specs.Driven.{IsDriven, DrivesOut}
use Rattle.bland_simplex.specs.Lowering.{Lowers}
use Rattle.bland_simplex.specs.Order.{rank, IsFirst, IsLeaving}
use Rattle.bland_simplex.specs.Ready.{IsUnderWay, IsLowered, IsReady}

module _ (lp : LpView) where
  pub weight_over : (j : ℕ) → j < width lp → pos 0 ≤ℤ phase_weight lp j
  weight_over j l =
      ⊎_elim
      (λ (h : j < lp.cols). subst (λ x. pos 0 ≤ℤ x) (sym (weight_program lp j h)) (≤ℤ_refl (pos 0)))
      (λ (h : lp.cols ≤ j). ⊎_elim
      (λ (e : j ≡ side lp). subst (λ k. pos 0 ≤ℤ phase_weight lp k) (sym e)
      (subst (λ x. pos 0 ≤ℤ x) (sym (weight_right lp)) (≤ℤ_refl (pos 0))))
      (λ (d : j ≢ side lp).
      let same : lp.cols + (j - lp.cols) ≡ j = omega arith in
      subst (λ k. pos 0 ≤ℤ phase_weight lp k) same
      (subst (λ x. pos 0 ≤ℤ x) (sym (weight_artificial lp (j - lp.cols) (omega arith))) (omega (arith, ints))))
      (cases_eq j (side lp)))
      (cases_lt j lp.cols)

  -- A row for the ratio rule.
  pub lowering_row : (t : Content) (col : ℕ) → IsUnderWay lp t → col < side lp → Lowers t (length lp.rows) col →
      (row : ℕ) × (row < length lp.rows) × (pos 0 <ℤ t.entry row col)
  lowering_row t col way l negative =
      let whole = whole_of lp t way.open way.reached in
      some_phase_row whole.program (whole.costs (length lp.rows + 2) (omega arith) (omega arith)) weight_over col (omega arith) negative

  -- ---- the end by Bland's rule

  abbrev lowered_content : Content → linear_content.Content
  lowered_content t = record { basis = t.basic; den = t.denom; matrix = t.entry; row = t.entry (length lp.rows + 2) }

  -- How many turns the first phase still takes.
  pub lowering_left : Content → ℕ
  lowering_left t = bland_measure (length lp.rows) (width lp) (side lp) (side lp) (rank lp.cols) (lowered_content t)

  priced : (t : Content) → IsUnderWay lp t →
      IsPricedTableau (length lp.rows) (width lp) (side lp) (column (start_entry lp)) (start_entry lp (length lp.rows + 2))
      (lowered_content t)
  priced t way =
      let whole = whole_of lp t way.open way.reached in
      record { tableau = whole.program; priced = whole.costs (length lp.rows + 2) (omega arith) (omega arith); feasible = way.feasible }

  not_negative : (x : ℤ) → (x <ℤ pos 0 → ⊥) → pos 0 ≤ℤ x
  not_negative x none = ⊎_elim (λ (h : x <ℤ pos 0). absurd (none h)) (λ (h : pos 0 ≤ℤ x). h) (below_or_at_least x (pos 0))

  pub lowering_falls : (old new : Content) (row col : ℕ) → IsUnderWay lp old → IsUnderWay lp new → IsPivoted old new row col →
      IsFirst lp.cols (side lp) (Lowers old (length lp.rows)) col → IsLeaving (length lp.rows) lp.cols (side lp) old col row →
      lowering_left new < lowering_left old
  unfolding lowering_left
  lowering_falls old new row col way after pivoted first leaving =
      let step : IsBlandStep (length lp.rows) (side lp) (side lp) (rank lp.cols) old.basic old.entry (old.entry (length lp.rows + 2))
      row col = record {
        offered = first.offered_is;
        improves = first.may;
        first_column = λ j h l. not_negative (old.entry (length lp.rows + 2) j) (first.before j h l);
        ratio = leaving.ratio;
        first_row = leaving.first;
      } in
      bland_falls (length lp.rows) (width lp) (side lp) (side lp) (rank lp.cols) (column (start_entry lp))
      (start_entry lp (length lp.rows + 2)) (omega arith) (omega arith) (λ i j h l. rank_once lp.cols i j)
      (lowered_content old) (lowered_content new) row col (priced old way) (priced new after) step
      (λ k h. moves_after lp old new row col pivoted k)

  -- ---- what is level where Phase's right side is 0

  pub level_row : (t : Content) → IsLowered lp t → (row : ℕ) → row < length lp.rows → lp.cols ≤ t.basic row → t.entry row (side lp) ≡ pos 0
  level_row t lowered row h behind =
      let way = lowered.way in
      let whole = whole_of lp t way.open way.reached in
      let within = whole.program.within row h in
      let basic : t.basic row < side lp = (let own = way.open.rules.basis row (omega (arith, way.open.rows_are)) in omega
      (arith, way.open.cols_are)) in
      let same : lp.cols + (t.basic row - lp.cols) ≡ t.basic row = omega arith in
      phase_done whole.program (whole.costs (length lp.rows + 2) (omega arith) (omega arith)) (λ k. phase_weight lp (t.basic k))
      (λ k l. refl) (side lp) (omega arith) way.feasible (λ k l. weight_over (t.basic k) (whole.program.within k l))
      (cost_is (start_entry lp (length lp.rows + 2) (side lp)) (sum_to (length lp.rows) (λ c. start_entry lp c (side lp)))
      (weight_right lp)) lowered.done row h
      (subst (λ k. phase_weight lp k ≡ pos 1) same (weight_artificial lp (t.basic row - lp.cols) (omega arith)))
    where
      cost_is : (a b : ℤ) → a +ℤ b ≡ pos 0 → a ≡ neg_ℤ b
      cost_is a b none = omega (arith, ints)

  -- The right side of such a row, as a pivot asks for it.
  pub right_side_level : (t : Content) (row col : ℕ) → IsLowered lp t → DrivesOut t (length lp.rows) lp.cols row col → right_side t row ≡ pos 0
  right_side_level t row col lowered drives =
      let last : t.cols - 1 ≡ side lp = (let o = lowered.way.open in omega (arith, o.cols_are)) in
      ap (λ (k : ℕ). t.entry row k) last ∙ level_row t lowered row drives.in_rows drives.artificial

  pub ready_of : (t : Content) → IsLowered lp t → IsDriven t (length lp.rows) lp.cols → IsReady lp t
  ready_of t lowered driven = record {
    «open» = lowered.way.open;
    reached = lowered.way.reached;
    feasible = lowered.way.feasible;
    inert = λ row h behind. record { level = level_row t lowered row h behind; empty = driven row h behind };
  }

  -- In a ready tableau each row counts nothing in Phase's right side.
  pub ready_lowered : (t : Content) → IsReady lp t → IsLowered lp t
  ready_lowered t ready = record { way = record { «open» = ready.open; reached = ready.reached; feasible = ready.feasible }; done = done }
    where
      none : (k : ℕ) → k < length lp.rows → phase_weight lp (t.basic k) *ℤ t.entry k (side lp) ≡ pos 0
      none k h = ⊎_elim
          (λ (low : t.basic k < lp.cols). ap (λ e. e *ℤ t.entry k (side lp)) (weight_program lp (t.basic k) low) ∙ zero-*ℤ
          (t.entry k (side lp)))
          (λ (high : lp.cols ≤ t.basic k). ap (λ e. phase_weight lp (t.basic k) *ℤ e) (ready.inert k h high).level ∙ *ℤ-zero
          (phase_weight lp (t.basic k)))
          (cases_lt (t.basic k) lp.cols)

      cost_is : (a b : ℤ) → a +ℤ b ≡ pos 0 → a ≡ neg_ℤ b
      cost_is a b is = omega (arith, ints)

      done : t.entry (length lp.rows + 2) (side lp) ≡ pos 0
      done =
          let whole = whole_of lp t ready.open ready.reached in
          let row = phase_row whole.program (whole.costs (length lp.rows + 2) (omega arith) (omega arith))
          (λ k. phase_weight lp (t.basic k)) (λ k l. refl) (side lp) (omega arith)
          (cost_is (start_entry lp (length lp.rows + 2) (side lp)) (sum_to (length lp.rows) (λ c. start_entry lp c (side lp)))
          (weight_right lp)) in
          let nothing = sum_to-nothing (length lp.rows) (λ k. phase_weight lp (t.basic k) *ℤ t.entry k (side lp)) none in
          row ∙ ap neg_ℤ nothing

  -- A turn that drives a column out.
  pub lowered_after : (old new : Content) (row col : ℕ) → IsLowered lp old → IsTableau new → IsPivoted old new row col →
      DrivesOut old (length lp.rows) lp.cols row col → IsLowered lp new
  lowered_after old new row col lowered rules pivoted drives =
      let way = lowered.way in
      let o = way.open in
      let level = level_row old lowered row drives.in_rows drives.artificial in
      let whole = whole_of lp old o way.reached in
      let pivot = pivot_at lp old new row col o pivoted in
      let program = drives.in_columns in
      let none : pivot_row old.entry row col (side lp) ≡ pos 0 = (turn_of (old.entry row col)).turns (old.entry row (side lp)) ∙
      (ap (λ x. (turn_of (old.entry row col)).by *ℤ x) level ∙ *ℤ-zero (turn_of (old.entry row col)).by) in
      let divides = pivot.divides (length lp.rows + 2) (side lp) (omega arith) (λ e. let inside = drives.in_rows in omega arith)
      (omega arith) in
      let first = ap (λ x. x *ℤ pivot_row old.entry row col col) lowered.done ∙ zero-*ℤ (pivot_row old.entry row col col) in
      let second = ap (λ x. old.entry (length lp.rows + 2) col *ℤ x) none ∙ *ℤ-zero (old.entry (length lp.rows + 2) col) in
      let turn = *ℤ_comm old.denom (new.entry (length lp.rows + 2) (side lp)) in
      record {
        way = record {
          «open» = open_after lp old new row col o rules pivoted;
          reached = reached_after lp old new row col o drives.in_rows (omega arith) drives.not_zero pivoted way.reached;
          feasible = (level_step (side lp) whole (omega arith) (omega arith) (omega arith)
              pivot way.feasible drives.in_rows drives.not_zero level).1;
        };
        done = cancel_positive old.denom whole.program.positive
            (let product : old.denom *ℤ new.entry (length lp.rows + 2) (side lp) ≡ pos 0 = omega (arith, linear) in product ∙ sym
            (*ℤ-zero old.denom));
      }

  -- How many artificial columns are basic.
  pub artificial_left : Content → ℕ
  artificial_left t = count_behind lp.cols t.basic (length lp.rows)

  pub driving_falls : (old new : Content) (row col : ℕ) → IsPivoted old new row col → DrivesOut old (length lp.rows) lp.cols row col →
      artificial_left new < artificial_left old
  unfolding artificial_left
  driving_falls old new row col pivoted drives = count_falls lp.cols old.basic new.basic (length lp.rows)
      row col drives.in_rows drives.artificial drives.in_columns pivoted.basis.enters pivoted.basis.others
