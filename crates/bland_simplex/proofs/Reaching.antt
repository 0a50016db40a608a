-- The tableaus to which the method may lead: they are of the program's own start, and a step that ends wide has a tableau behind it.
use Rattle.std.proofs.Common.{◌≡◌, ◌≢◌, ◌⊎◌, ⊎_elim, inl, inr, ℕ, ◌+◌, ◌<◌, ◌≤◌, ◌∙◌, ap, List, Some, ℤ, pos, ◌*ℤ◌, ◌<ℤ◌, length, refl}
use Rattle.std.proofs.Common.{sym, subst, false, arith}
use Rattle.std.proofs.lemmas.Bool.{cases_eq, cases_lt}
use Rattle.std.proofs.lemmas.Int.{ints}
use Rattle.corr_num.specs.Narrow.{Wide}
use Rattle.corr_num.specs.Quotient.{IsQuotient}
use Rattle.exact_algebra.proofs.Order.{cancel_positive}
use Rattle.exact_algebra.proofs.Families.{put, put-same, put-other}
use Rattle.lp_form.specs.Program.{LpView}
use Rattle.lp_form.specs.declared.places.Place.{Place}
use Rattle.lp_form.specs.declared.places.RowName.{RowName}
use Rattle.lp_form.specs.declared.places.RowName.TheVariants.{Basic, First, Second, Phase}
use Rattle.plane_hull.specs.declared.directions.Dir.{Dir}
use Rattle.int_tableau.proofs.Reaching.{quotient_of, start_kept}
use Rattle.int_tableau.proofs.Starting.{start_reached}
use Rattle.int_tableau.specs.declared.ends.PivotEnd.{PivotEnd}
use Rattle.int_tableau.specs.declared.ends.PivotEnd.TheVariants.{Wide as WideAt, NoMemory}
use Rattle.int_tableau.specs.Content.{Content, IsNamed}
use Rattle.int_tableau.specs.Pivot.{EndsWide, IsPivoted, numerator, pivot_row}
use Rattle.int_tableau.specs.Reached.{IsReachedFrom}
use Rattle.int_tableau.specs.Start.{start_entry}
use Rattle.bland_simplex.specs.Open.{IsOpenFor}
use Rattle.bland_simplex.specs.Reachable.{Heading, HeadsIn, IsLeftWide, IsWideBasis, LeavesWide, ListsBasis, MayReach, starts, steps, turns}
use Rattle.bland_simplex.specs.Steps.{IsFirstStep, IsTurning, StepsEnd, StepsLead, StepsLeadWide, stays, goes}

-- what each step has: an open tableau of the program's start, and an entry of it that isn't 0
record MayPivot (lp : LpView) (t : Content) (row col : ℕ) : Type 0 where
  opened : IsOpenFor lp t
  reached : IsReachedFrom (start_entry lp) t
  in_rows : row < length lp.rows
  in_columns : col < lp.cols + length lp.rows
  not_zero : t.entry row col ≢ pos 0

may_pivot : (lp : LpView) (dir : Dir) (t : Content) (row col : ℕ) → IsFirstStep lp t row col ⊎ IsTurning lp dir t row col
    → MayPivot lp t row col
may_pivot lp dir t row col (inl (inl step)) = record {
  opened = step.way.open;
  reached = step.way.reached;
  in_rows = step.ratio.within;
  in_columns = step.in_columns;
  not_zero = λ e. let over = rw e at step.ratio.positive in absurd (omega (arith, ints));
}
may_pivot lp dir t row col (inl (inr step)) = record {
  opened = step.lowered.way.open;
  reached = step.lowered.way.reached;
  in_rows = step.drives.in_rows;
  in_columns = omega (arith, step.drives.in_columns);
  not_zero = step.drives.not_zero;
}
may_pivot lp dir t row col (inr step) = record {
  opened = step.ready.open;
  reached = step.ready.reached;
  in_rows = step.ratio.within;
  in_columns = omega (arith, step.in_columns);
  not_zero = λ e. let over = rw e at step.ratio.positive in absurd (omega (arith, ints));
}

module _ (lp : LpView) (t : Content) (row col : ℕ) (may : MayPivot lp t row col) where
  row_inside : row + 3 < t.rows
  row_inside = let rows = may.opened.rows_are in let within = may.in_rows in omega arith

  col_inside : col + 1 < t.cols
  col_inside = let cols = may.opened.cols_are in let within = may.in_columns in omega arith

  three_rows : 3 ≤ t.rows
  three_rows = may.opened.rules.three_more

  kept_by : (next : Content) → IsPivoted t next row col → IsReachedFrom (start_entry lp) next
  kept_by next pivoted = start_kept (start_entry lp) t next row col three_rows row_inside col_inside may.not_zero pivoted may.reached

  -- an entry as a pivot leaves it, where there is one
  record IsAfter (i j : ℕ) (q : ℤ) : Type 0 where
    in_row : i ≡ row → q ≡ pivot_row t row col j
    others : i < t.rows → j < t.cols → i ≢ row → IsQuotient (numerator t row col i j) t.denom q

  after : (i j : ℕ) → (q : ℤ) × IsAfter i j q
  after i j = ⊎_elim
      (λ (e : i ≡ row). (pivot_row t row col j, record { in_row = λ same. refl; others = λ h l d. absurd (d e) }))
      (λ (d : i ≢ row). ⊎_elim
      (λ (h : i < t.rows). ⊎_elim
      (λ (l : j < t.cols). let found = quotient_of t row col three_rows row_inside col_inside (start_entry lp, may.reached) i j h d l in
      (found.0, record { in_row = λ e. absurd (d e); others = λ h l d. found.1 }))
      (λ (l : t.cols ≤ j). (pos 0, record { in_row = λ e. absurd (d e); others = λ h under d. absurd (omega arith) }))
      (cases_lt j t.cols))
      (λ (h : t.rows ≤ i). (pos 0, record { in_row = λ e. absurd (d e); others = λ under l d. absurd (omega arith) }))
      (cases_lt i t.rows))
      (cases_eq i row)

  -- the tableau to which a pivot leads, wide or not
  abbrev pivoted_content : Content
  pivoted_content = record {
    rows = t.rows;
    cols = t.cols;
    entry = λ i j. (after i j).0;
    basic = put t.basic row col;
    denom = pivot_row t row col col;
    spent = false;
  }

  is_pivoted : IsPivoted t pivoted_content row col
  is_pivoted = record {
    fresh = refl;
    basis = record { rows = refl; cols = refl; enters = put-same t.basic row col; others = λ i d. put-other t.basic row col i d };
    denom = refl;
    pivot = λ j l. (after row j).1.in_row refl;
    others = λ i j h l d. (after i j).1.others h l d;
  }

pub may_keeps : (lp : LpView) (heading : Heading) (t : Content) → MayReach lp heading t → IsReachedFrom (start_entry lp) t
may_keeps lp _ t (starts dir _ right start rules) = start_reached lp t start
may_keeps lp heading next (steps _ dir t _ row col may heads step pivoted) =
    kept_by lp t row col (may_pivot lp dir t row col step) next pivoted
may_keeps lp heading t (turns before _ dir _ may heads ready optimal on) = may_keeps lp before t may

named_alike : (t u : Content) (row : ℕ) (name : RowName) → u.rows ≡ t.rows → u.basic row ≡ t.basic row → IsNamed u row name
    → IsNamed t row name
named_alike t u row (Basic col) rows basic named = (rw rows at named.0, sym basic ∙ named.1)
named_alike t u row First rows basic named = rw rows at named
named_alike t u row Second rows basic named = rw rows at named
named_alike t u row Phase rows basic named = rw rows at named

one_quotient : (den q r : ℤ) → pos 0 <ℤ den → q *ℤ den ≡ r *ℤ den → q ≡ r
one_quotient den q r over same = cancel_positive den over (omega (arith, ints, same))

-- Where a step from such a tableau ends wide, what it leaves has the basis of a wide one.
pub step_leaves_wide : (lp : LpView) (heading : Heading) (dir : Dir) (last new : Content) (row col : ℕ) (place : Place)
    → MayReach lp heading last → HeadsIn heading dir → IsFirstStep lp last row col ⊎ IsTurning lp dir last row col
    → EndsWide last new row col place → LeavesWide lp new place
step_leaves_wide lp heading dir last new row col place may heads step ended =
    let pivots = may_pivot lp dir last row col step in
    let next = pivoted_content lp last row col pivots in
    let pivoted = is_pivoted lp last row col pivots in
    let there = pivoted.others ended.at place.col ended.in_rows ended.in_columns ended.other in
    let same : next.entry ended.at place.col ≡ ended.entry = one_quotient last.denom (next.entry ended.at place.col) ended.entry
    (pivots.opened.rules.positive pivots.opened.fresh) (there ∙ sym ended.entry_is) in
    record {
      heading = heading;
      tableau = next;
      may = steps heading dir last next row col may heads step pivoted;
      wide = record {
        row = ended.at;
        named = named_alike next new ended.at place.row ended.basis.rows
            (ended.basis.others ended.at ended.other ∙ sym (pivoted.basis.others ended.at ended.other)) ended.named;
        in_columns = ended.in_columns;
        wide = subst (λ e. Wide e) (sym same) ended.wide;
      };
      rows = ended.basis.rows;
      basis = λ k h. basis_alike k;
    }
  where
    basis_alike : (k : ℕ) → new.basic k ≡ put last.basic row col k
    basis_alike k = ⊎_elim
        (λ (e : k ≡ row). rw e (ended.basis.enters ∙ sym (put-same last.basic row col)))
        (λ (d : k ≢ row). ended.basis.others k d ∙ sym (put-other last.basic row col k d))
        (cases_eq k row)

-- Steps from such a tableau lead to such.
pub steps_may : (lp : LpView) (heading : Heading) (dir : Dir) (Step : Content → ℕ → ℕ → Type 0) (first last : Content)
    → ((t : Content) (row col : ℕ) → Step t row col → IsFirstStep lp t row col ⊎ IsTurning lp dir t row col) → HeadsIn heading dir
    → MayReach lp heading first → StepsLead Step first last → MayReach lp heading last
steps_may lp heading dir Step first _ are heads may stays = may
steps_may lp heading dir Step first next are heads may (goes at _ row col led step pivoted) =
    steps heading dir at next row col (steps_may lp heading dir Step first at are heads may led) heads (are at row col step) pivoted

pub steps_leave_wide : (lp : LpView) (heading : Heading) (dir : Dir) (Step : Content → ℕ → ℕ → Type 0) (first new : Content)
    (place : Place) → ((t : Content) (row col : ℕ) → Step t row col → IsFirstStep lp t row col ⊎ IsTurning lp dir t row col)
    → HeadsIn heading dir → MayReach lp heading first → StepsLeadWide Step first new place → LeavesWide lp new place
steps_leave_wide lp heading dir Step first new place are heads may ended =
    step_leaves_wide lp heading dir ended.last new ended.row ended.col place
    (steps_may lp heading dir Step first ended.last are heads may ended.led) heads (are ended.last ended.row ended.col ended.step)
    ended.wide

pub steps_left : (lp : LpView) (heading : Heading) (dir : Dir) (Step : Content → ℕ → ℕ → Type 0) (first new : Content) (end : PivotEnd)
    → ((t : Content) (row col : ℕ) → Step t row col → IsFirstStep lp t row col ⊎ IsTurning lp dir t row col) → HeadsIn heading dir
    → MayReach lp heading first → StepsEnd Step first new end → IsLeftWide lp new end
steps_left lp heading dir Step first new (WideAt place) are heads may ended =
    steps_leave_wide lp heading dir Step first new place are heads may ended
steps_left lp heading dir Step first new NoMemory are heads may ended = tt

-- A list of the basis that is left is one of the wide tableau's.
pub listed_wide : (lp : LpView) (left : Content) (place : Place) (columns : List ℕ) → LeavesWide lp left place → ListsBasis columns left
    → IsWideBasis lp columns place
listed_wide lp left place columns leaves lists = record {
  heading = leaves.heading;
  tableau = leaves.tableau;
  may = leaves.may;
  lists = record {
    ascending = lists.ascending;
    basic = λ k col at. let found = lists.basic k col at in (
      found.0,
      rw leaves.rows at found.1,
      sym (leaves.basis found.0 found.1) ∙
          found.2,
    );
    all = λ row h. let inside = rw (sym leaves.rows) at h in let found = lists.all row inside in
        (found.0, found.1 ∙ ap (λ c. Some c) (leaves.basis row inside));
  };
  wide = leaves.wide;
}
