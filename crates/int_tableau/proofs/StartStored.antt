-- The lists of the starting tableau keep the rules of what is stored.
use Rattle.std.proofs.Common.{◌≡◌, ℕ, ◌+◌, ◌<◌, false, [], length, pos, slice_index_or, arith}
use Rattle.std.proofs.lemmas.Int.{ints}
use Rattle.std.proofs.lemmas.List.Elements.{All-from_get_or}
use Rattle.corr_num.specs.Narrow.{Narrow}
use Rattle.lp_form.specs.Program.{LpView, IsLp}
use Rattle.int_tableau.proofs.Starting.{start_reached}
use Rattle.int_tableau.specs.Elimination.{IsRow}
use Rattle.int_tableau.specs.Start.{StartsNarrow, IsStart, start_entry}
use Rattle.int_tableau.specs.StartLists.{AreStartRows, IsStartBasis}
use Rattle.int_tableau.specs.Stored.{Stored, content_of, IsStored}

module _ (lp : LpView) (s : Stored) (rows : AreStartRows lp s.rows) (basis : IsStartBasis lp s.basis) (cols : s.cols ≡ lp.cols + length lp.rows + 1) (denom : s.denom ≡ pos 1) (fresh : s.spent ≡ false) where
  pub start_is : IsStart lp (content_of s)
  start_is = record {
    rows = rows.all;
    cols = cols;
    fresh = fresh;
    denom = denom;
    basis = λ row h. basis.artificial row (omega (arith, basis.one_each));
    entries = λ row col h k. let r = rows.each row h in r.entries_are col (omega (arith, r.width, cols));
  }

  start_rows_are : StartsNarrow lp → (i : ℕ) → i < length s.rows → IsRow s.cols (slice_index_or s.rows i [])
  start_rows_are narrow i h =
      let r = rows.each i h in
      record {
        width = omega (arith, r.width, cols);
        narrow = All-from_get_or Narrow (slice_index_or s.rows i []) (pos 0) (λ k l. rw (r.entries_are k l) (narrow i (omega (arith, rows.all)) k (omega (arith, r.width))));
      }

  pub start_stored : IsLp lp → StartsNarrow lp → IsStored s
  start_stored rules narrow = record {
    three_more = omega (arith, rows.all, basis.one_each);
    artificial = omega (arith, cols, basis.one_each);
    few_rows = omega (arith, rules.few_rows, basis.one_each);
    few_columns = omega (arith, rules.few_rows, rules.few_columns, cols);
    basis = All-from_get_or (λ c. c + 1 < s.cols) s.basis 0 (λ k h. rw (basis.artificial k h) (omega (arith, cols, basis.one_each)));
    positive = λ e. rw denom (omega (arith, ints));
    narrow_denom = λ e. rw denom (omega arith);
    each_row = λ e. All-from_get_or (IsRow s.cols) s.rows [] (start_rows_are narrow);
    reached = λ e. (start_entry lp, start_reached lp (content_of s) start_is);
  }
