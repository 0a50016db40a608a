-- Where the first phase is stuck, the multipliers that are read off it show that there is no solution: what they make of a column is
-- Phase's entry with its sign changed. A ready tableau has a solution, its basic one.
use Rattle.std.proofs.Common.{◌≡◌, ◌≢◌, ◌⊎◌, ⊎_elim, inl, inr, ℕ, ◌+◌, ◌<◌, ◌≤◌, List, ℤ, pos, ◌+ℤ◌, ◌-ℤ◌, ◌*ℤ◌, ◌≤ℤ◌, ◌<ℤ◌, neg_ℤ, slice_index_or, length, refl, sym, ap, ◌∙◌, arith}
use Rattle.std.proofs.lemmas.Bool.{cases_eq, cases_lt}
use Rattle.std.proofs.lemmas.Int.{ints}
use Rattle.exact_algebra.proofs.Order.{product_not_negative}
use Rattle.exact_algebra.proofs.RingLaws.{*ℤ-zero, *ℤ-one}
use Rattle.exact_algebra.proofs.SumOrder.{sum_to_not_negative}
use Rattle.exact_algebra.proofs.Sums.{sum_to-same, sum_to-one}
use Rattle.exact_algebra.specs.Sums.{sum_to}
use Rattle.corr_num.specs.Narrow.{Narrow}
use Rattle.exact_linear.proofs.Determinant.{unit, unit-same, unit-other}
use Rattle.exact_linear.proofs.Multipliers.{phase_multipliers}
use Rattle.exact_linear.proofs.Phase.{phase_row}
use Rattle.exact_linear.proofs.Solutions.{basic_solution}
use Rattle.exact_linear.specs.Simplex.{basic_value}
use Rattle.lp_form.specs.Program.{IsProgram, LpView, coefficient}
use Rattle.lp_form.specs.Certificates.{ShowEmpty, times_column}
use Rattle.lp_form.specs.Solutions.{HasSolution}
use Rattle.int_tableau.specs.Content.{Content}
use Rattle.int_tableau.specs.Start.{start_entry}
use Rattle.bland_simplex.proofs.Lowering.{weight_over}
use Rattle.bland_simplex.proofs.StartEntries.{phase_weight, phase_artificial, weight_program, weight_right, entry_program, entry_right, entry_own, entry_apart}
use Rattle.bland_simplex.proofs.TurnSteps.{solution_of}
use Rattle.bland_simplex.proofs.Wholes.{width, side, whole_of}
use Rattle.bland_simplex.specs.Multipliers.{IsStuck, AreMultipliers, HasNarrowColumns}
use Rattle.bland_simplex.specs.Ready.{IsUnderWay, IsReady}

pub opposite_of : (a b : ℤ) → a +ℤ b ≡ pos 0 → a ≡ neg_ℤ b
opposite_of a b none = omega (arith, ints)

module _ (lp : LpView) where
  -- The artificial columns are the unit vectors.
  pub units : (k c : ℕ) → k < length lp.rows → c < length lp.rows → start_entry lp c (lp.cols + k) ≡ unit k c
  units k c h l = ⊎_elim
      (λ (e : k ≡ c). rw (← e) (entry_own lp k h ∙ sym (unit-same k)))
      (λ (d : k ≢ c). entry_apart lp c k l h (λ e. d (sym e)) ∙ sym (unit-other k c d))
      (cases_eq k c)

  module _ (t : Content) (way : IsUnderWay lp t) (y : List ℤ) (are : AreMultipliers (length lp.rows) lp.cols t y) where
    -- What the multipliers make of a column of the start.
    made_of : (j : ℕ) → j < width lp → phase_weight lp j ≡ pos 0 →
        sum_to (length lp.rows) (λ row. slice_index_or y row (pos 0) *ℤ start_entry lp row j) ≡ neg_ℤ (t.entry (length lp.rows + 2) j)
    made_of j l none =
        let whole = whole_of lp t way.open way.reached in
        sum_to-same (length lp.rows) (λ row. slice_index_or y row (pos 0) *ℤ start_entry lp row j)
        (λ k. (t.denom -ℤ t.entry (length lp.rows + 2) (lp.cols + k)) *ℤ start_entry lp k j)
        (λ k h. ap (λ e. e *ℤ start_entry lp k j) (are.values k h))
        ∙ phase_multipliers whole.program (whole.costs (length lp.rows + 2) (omega arith) (omega arith)) (λ k. lp.cols + k)
        (λ k h. omega arith) units (phase_artificial lp) j l
        (opposite_of (start_entry lp (length lp.rows + 2) j) (sum_to (length lp.rows) (λ c. start_entry lp c j)) none)

    made_of_program : (col : ℕ) → col < lp.cols → times_column lp y col ≡ neg_ℤ (t.entry (length lp.rows + 2) col)
    made_of_program col l =
        sum_to-same (length lp.rows) (λ row. slice_index_or y row (pos 0) *ℤ coefficient lp row col)
        (λ row. slice_index_or y row (pos 0) *ℤ start_entry lp row col)
        (λ row h. ap (λ e. slice_index_or y row (pos 0) *ℤ e) (sym (entry_program lp row col h l)))
        ∙ made_of col (omega arith) (weight_program lp col l)

    module _ (program : IsProgram lp) (stuck : IsStuck (length lp.rows) lp.cols t) where
      first_is : slice_index_or y 0 (pos 0) ≡ neg_ℤ (t.entry (length lp.rows + 2) (side lp))
      first_is =
          let at_right = λ (row : ℕ). slice_index_or y row (pos 0) *ℤ start_entry lp row (side lp) in
          let only = sum_to-one (length lp.rows) 0 at_right program.a_row
          (λ k h d. ap (λ e. slice_index_or y k (pos 0) *ℤ e) (entry_right lp k h ∙ program.zeros k (omega arith)) ∙ *ℤ-zero
          (slice_index_or y k (pos 0))) in
          let own = ap (λ e. slice_index_or y 0 (pos 0) *ℤ e) (entry_right lp 0 program.a_row ∙ program.one) ∙ *ℤ-one
          (slice_index_or y 0 (pos 0)) in
          sym own ∙ (sym only ∙ made_of (side lp) (omega arith) (weight_right lp))

      phase_negative : t.entry (length lp.rows + 2) (side lp) <ℤ pos 0
      phase_negative =
          let whole = whole_of lp t way.open way.reached in
          let row = phase_row whole.program (whole.costs (length lp.rows + 2) (omega arith) (omega arith))
          (λ k. phase_weight lp (t.basic k)) (λ k l. refl) (side lp) (omega arith)
          (opposite_of (start_entry lp (length lp.rows + 2) (side lp)) (sum_to (length lp.rows) (λ c. start_entry lp c (side lp)))
          (weight_right lp)) in
          let over = sum_to_not_negative (length lp.rows) (λ k. phase_weight lp (t.basic k) *ℤ t.entry k (side lp))
          (λ k h. product_not_negative (weight_over lp (t.basic k) (whole.program.within k h)) (way.feasible.at k h)) in
          below (t.entry (length lp.rows + 2) (side lp)) _ row over stuck.above
        where
          below : (a s : ℤ) → a ≡ neg_ℤ s → pos 0 ≤ℤ s → a ≢ pos 0 → a <ℤ pos 0
          below a s is over other = omega (arith, ints)

      pub stuck_shows : ShowEmpty lp y
      stuck_shows = record {
        one_each = are.one_each;
        above = (let low = phase_negative in let is = first_is in rw is (omega (arith, ints)));
        not_above = λ col l. (let is = made_of_program col l in let over = stuck.not_negative col (omega arith) in rw is
            (omega (arith, ints)));
      }

    -- It is narrow, since that entry is.
    pub stuck_narrow : HasNarrowColumns lp y
    stuck_narrow col l =
        let is = made_of_program col l in
        let small = way.open.rules.narrow way.open.fresh (length lp.rows + 2) col (omega (arith, way.open.rows_are))
        (omega (arith, way.open.cols_are)) in
        rw is (turned (t.entry (length lp.rows + 2) col) small)
      where
        turned : (a : ℤ) → Narrow a → Narrow (neg_ℤ a)
        turned a small = omega (arith, ints)

  -- The basic solution of a ready tableau.
  pub ready_solution : (t : Content) → IsReady lp t → HasSolution lp
  ready_solution t ready =
      let whole = whole_of lp t ready.open ready.reached in (
        t.denom,
        basic_value (length lp.rows) t.basic (λ k. t.entry k (side lp)),
        whole.program.positive,
        solution_of lp t.denom
            (basic_value (length lp.rows) t.basic (λ k. t.entry k (side lp)))
            (basic_solution whole.program (side lp) lp.cols (omega arith) ready.feasible ends),
      )
    where
      ends : (k : ℕ) → k < length lp.rows → (t.basic k < lp.cols) ⊎ (t.entry k (side lp) ≡ pos 0)
      ends k h = ⊎_elim (λ (low : t.basic k < lp.cols). inl low) (λ (high : lp.cols ≤ t.basic k). inr (ready.inert k h high).level) (cases_lt (t.basic k) lp.cols)
