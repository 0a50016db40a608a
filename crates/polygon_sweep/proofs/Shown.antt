-- What a ready tableau shows: its basic solution is one of the program, and First and Second hold what it pays.
use Rattle.std.proofs.Common.{◌≡◌, ◌⊎◌, inl, inr, ⊎_elim, ℕ, ◌+◌, ◌<◌, ◌≤◌, List, length, All, ℤ, pos, ◌*ℤ◌, refl, sym, ap, ◌∙◌, arith}
use Rattle.std.proofs.lemmas.Bool.{cases_lt}
use Rattle.exact_algebra.proofs.Sums.{sum_to-same}
use Rattle.corr_game.specs.declared.sides.Side.TheVariants.{One, Two}
use Rattle.exact_linear.proofs.Optimality.{basic_payoff}
use Rattle.exact_linear.proofs.Solutions.{basic_solution}
use Rattle.exact_linear.proofs.Tableaus.{basic_once}
use Rattle.exact_linear.specs.Simplex as simplex
use Rattle.exact_linear.specs.Simplex.{basic_value}
use Rattle.exact_linear.specs.Tableau.{column}
use Rattle.corr_num.specs.Narrow.{Narrow}
use Rattle.lp_form.specs.Program.{LpView, coefficient, payoff_of}
use Rattle.lp_form.specs.Solutions.{IsSolution, paid}
use Rattle.int_tableau.specs.Content.{Content}
use Rattle.int_tableau.specs.Start.{start_entry}
use Rattle.bland_simplex.proofs.StartEntries.{entry_program, entry_right, first_program, first_right, second_program, second_right}
use Rattle.bland_simplex.proofs.Wholes.{side, whole_of}
use Rattle.bland_simplex.specs.Ready.{IsReady}
use Rattle.polygon_sweep.specs.declared.corners.SweptCorner.{SweptCorner}
use Rattle.polygon_sweep.specs.Swept.{IsCornerOf, number_in}

module _ (lp : LpView) (t : Content) (ready : IsReady lp t) where
  pub basis_once : (k l : ℕ) → k < length lp.rows → l < length lp.rows → t.basic k ≡ t.basic l → k ≡ l
  basis_once = basic_once (whole_of lp t ready.open ready.reached).program

  ends : (k : ℕ) → k < length lp.rows → (t.basic k < lp.cols) ⊎ (t.entry k (side lp) ≡ pos 0)
  ends k h = ⊎_elim (λ (low : t.basic k < lp.cols). inl low) (λ (high : lp.cols ≤ t.basic k). inr (ready.inert k h high).level) (cases_lt (t.basic k) lp.cols)

  abbrev pub value : ℕ → ℤ
  value = basic_value (length lp.rows) t.basic (λ k. t.entry k (side lp))

  shown : simplex.IsSolution (length lp.rows) lp.cols (side lp) (column (start_entry lp)) t.denom value
  shown = basic_solution (whole_of lp t ready.open ready.reached).program (side lp) lp.cols (omega arith) ready.feasible ends

  module _ (values : List ℤ) (same : (col : ℕ) → col < lp.cols → number_in values col ≡ value col) where
    pub values_solve : IsSolution lp t.denom (number_in values)
    values_solve = record {
      not_negative = λ col h. rw (same col h) (shown.positive col h);
      meets = λ row h.
          let terms = sum_to-same lp.cols (λ j. coefficient lp row j *ℤ number_in values j) (λ j. start_entry lp row j *ℤ value j) (λ j l. rw (same j l, entry_program lp row j h l) refl) in
          terms ∙ (shown.makes row h ∙ ap (λ e. t.denom *ℤ e) (entry_right lp row h));
    }

    pub values_pay_one : t.entry (length lp.rows) (side lp) ≡ paid lp One (number_in values)
    values_pay_one = sym (
        sum_to-same lp.cols (λ j. payoff_of One lp j *ℤ number_in values j) (λ j. payoff_of One lp j *ℤ value j) (λ j l. rw (same j l) refl)
        ∙ basic_payoff (whole_of lp t ready.open ready.reached).program ((whole_of lp t ready.open ready.reached).costs (length lp.rows) (omega arith) (omega arith)) lp.cols (side lp) (omega arith) (omega arith) (payoff_of One lp) (first_program lp) (first_right lp) ready.feasible ends)

    pub values_pay_two : t.entry (length lp.rows + 1) (side lp) ≡ paid lp Two (number_in values)
    values_pay_two = sym (
        sum_to-same lp.cols (λ j. payoff_of Two lp j *ℤ number_in values j) (λ j. payoff_of Two lp j *ℤ value j) (λ j l. rw (same j l) refl)
        ∙ basic_payoff (whole_of lp t ready.open ready.reached).program ((whole_of lp t ready.open ready.reached).costs (length lp.rows + 1) (omega arith) (omega arith)) lp.cols (side lp) (omega arith) (omega arith) (payoff_of Two lp) (second_program lp) (second_right lp) ready.feasible ends)

-- a corner with the numbers that the tableau shows
pub corner_shown : (lp : LpView) (t : Content) (corner : SweptCorner) → IsReady lp t → corner.one ≡ t.entry (length lp.rows) (side lp) → corner.two ≡ t.entry (length lp.rows + 1) (side lp) → corner.den ≡ t.denom →
    Narrow corner.one → Narrow corner.two → Narrow corner.den → length corner.values ≡ lp.cols → All Narrow corner.values → ((col : ℕ) → col < lp.cols → number_in corner.values col ≡ basic_value (length lp.rows) t.basic (λ k. t.entry k (side lp)) col) → IsCornerOf lp corner
corner_shown lp t corner ready one two den one_narrow two_narrow den_narrow count narrow same = record {
  positive = rw den (whole_of lp t ready.open ready.reached).program.positive;
  den = den_narrow;
  one = one_narrow;
  two = two_narrow;
  count = count;
  values = narrow;
  solution = rw den (values_solve lp t ready corner.values same);
  pays_one = one ∙ values_pay_one lp t ready corner.values same;
  pays_two = two ∙ values_pay_two lp t ready corner.values same;
}
