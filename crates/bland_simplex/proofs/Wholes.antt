-- Open tableaus of a program's start as whole tableaus in its own numbers of rows and columns, and what a pivot by the ratio rule
-- keeps of them.
use Rattle.std.proofs.Common.{◌≡◌, ◌≢◌, ⊎_elim, ℕ, ◌+◌, ◌-◌, ◌<◌, pos, length, sym, ◌∙◌, arith}
use Rattle.std.proofs.lemmas.Bool.{cases_eq}
use Rattle.std.proofs.lemmas.Int.{ints}
use Rattle.exact_algebra.proofs.Families.{put, put-same, put-other}
use Rattle.exact_linear.proofs.SimplexSteps.{ratio_step}
use Rattle.exact_linear.specs.Pivot.{IsPivot}
use Rattle.exact_linear.specs.Simplex.{IsLeastRatio}
use Rattle.exact_linear.specs.Tableau.{IsTableauOf}
use Rattle.lp_form.specs.Program.{LpView}
use Rattle.int_tableau.proofs.Reaching.{pivot_of, start_kept}
use Rattle.int_tableau.specs.Content.{Content, IsTableau}
use Rattle.int_tableau.specs.Pivot.{IsPivoted}
use Rattle.int_tableau.specs.Reached.{IsReachedFrom}
use Rattle.int_tableau.specs.Start.{start_entry}
use Rattle.bland_simplex.specs.Open.{IsOpenFor}
use Rattle.bland_simplex.specs.Ready.{IsUnderWay}

module _ (lp : LpView) where
  -- The number of columns with the right sides.
  abbrev pub width : ℕ
  width = lp.cols + length lp.rows + 1

  abbrev pub side : ℕ
  side = lp.cols + length lp.rows

  pub whole_of : (t : Content) → IsOpenFor lp t → IsReachedFrom (start_entry lp) t →
      IsTableauOf (length lp.rows) (length lp.rows + 3) width (start_entry lp) t.basic t.denom t.entry
  whole_of t o reached =
      let program : t.rows - 3 ≡ length lp.rows = omega (arith, o.rows_are) in
      rw (program, o.rows_are, o.cols_are) at reached

  pub pivot_at : (old new : Content) (row col : ℕ) → IsOpenFor lp old → IsPivoted old new row col →
      IsPivot (length lp.rows + 3) width row col old.denom old.entry new.entry
  pivot_at old new row col o pivoted = rw (o.rows_are, o.cols_are) at (pivot_of old new row col pivoted)

  pub open_after : (old new : Content) (row col : ℕ) → IsOpenFor lp old → IsTableau new → IsPivoted old new row col → IsOpenFor lp new
  open_after old new row col o rules pivoted = record
      { rules = rules; fresh = pivoted.fresh; rows_are = pivoted.basis.rows ∙ o.rows_are; cols_are = pivoted.basis.cols ∙ o.cols_are }

  pub reached_after : (old new : Content) (row col : ℕ) → IsOpenFor lp old → row < length lp.rows → col < side →
      old.entry row col ≢ pos 0 → IsPivoted old new row col → IsReachedFrom (start_entry lp) old → IsReachedFrom (start_entry lp) new
  reached_after old new row col o in_rows in_columns other pivoted reached = start_kept (start_entry lp) old new row col
      (omega (arith, o.rows_are)) (omega (arith, o.rows_are)) (omega (arith, o.cols_are)) other pivoted reached

  -- The basis after a pivot as a family with one column changed.
  pub moves_after : (old new : Content) (row col : ℕ) → IsPivoted old new row col → (k : ℕ) → new.basic k ≡ put old.basic row col k
  moves_after old new row col pivoted k =
      ⊎_elim
      (λ (e : k ≡ row). rw e (pivoted.basis.enters ∙ sym (put-same old.basic row col)))
      (λ (d : k ≢ row). pivoted.basis.others k d ∙ sym (put-other old.basic row col k d))
      (cases_eq k row)

  -- A pivot by the ratio rule stays under way.
  pub way_after : (old new : Content) (row col : ℕ) → IsUnderWay lp old → IsTableau new → IsPivoted old new row col → col < side →
      IsLeastRatio (length lp.rows) side old.entry row col → IsUnderWay lp new
  way_after old new row col way rules pivoted in_columns ratio =
      let o = way.open in
      let over = ratio.positive in
      let other : old.entry row col ≢ pos 0 = λ e. omega (arith, ints) in
      record {
        «open» = open_after old new row col o rules pivoted;
        reached = reached_after old new row col o ratio.within in_columns other pivoted way.reached;
        feasible = (ratio_step side (whole_of old o way.reached) (omega arith) (omega arith) (omega arith)
            (pivot_at old new row col o pivoted) way.feasible ratio).1;
      }
