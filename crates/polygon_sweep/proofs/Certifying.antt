-- The multipliers that a ready tableau shows in its artificial columns: what they leave of a column is that column's reduced cost, so
-- they certify each direction that the tableau bounds; and the first of them are what its own solution pays.
use Rattle.std.proofs.Common.{◌≡◌, ℕ, ◌+◌, ◌<◌, List, [], ◌∷◌, ◌++◌, ◌≤◌, length, ℤ, pos, ◌+ℤ◌, ◌-ℤ◌, ◌*ℤ◌, neg_ℤ, slice_index_or, refl, sym, ap, ◌∙◌, arith}
use Rattle.std.proofs.lemmas.Int.{ints}
use Rattle.std.proofs.lemmas.List.Elements.{All-push}
use Rattle.exact_algebra.proofs.RingLaws.{*ℤ-zero, *ℤ-one}
use Rattle.exact_algebra.proofs.Sums.{sum_to-same, sum_to-one}
use Rattle.corr_game.specs.declared.sides.Side.{Side}
use Rattle.corr_game.specs.declared.sides.Side.TheVariants.{One, Two}
use Rattle.corr_num.specs.Narrow.{Narrow}
use Rattle.exact_linear.proofs.Multipliers.{certified, multipliers}
use Rattle.exact_linear.specs.Tableau.{IsTableauOf}
use Rattle.lp_form.specs.Certificates.{left_over}
use Rattle.lp_form.specs.Program.{IsProgram, LpView, coefficient, payoff_of}
use Rattle.int_tableau.proofs.Pushing.{push_length, push_step}
use Rattle.int_tableau.specs.Content.{Content}
use Rattle.int_tableau.specs.Start.{start_entry}
use Rattle.plane_hull.specs.declared.sides.SideRow.{SideRow}
use Rattle.bland_simplex.proofs.Emptiness.{units}
use Rattle.bland_simplex.proofs.StartEntries.{entry_program, entry_right, first_behind, first_program, second_behind, second_program}
use Rattle.bland_simplex.proofs.Wholes.{side, whole_of, width}
use Rattle.bland_simplex.specs.Ready.{IsReady}
use Rattle.polygon_sweep.specs.declared.corners.SweptCorner.{SweptCorner}
use Rattle.polygon_sweep.specs.Swept.{AreEntries, IsBounding, IsCoprime, IsPointOf, IsSideOf, Reaches, number_in}

pub none_read : (t : Content) (row cols : ℕ) (xs : List ℤ) → xs ≡ [] → AreEntries t row cols 0 xs
none_read t row cols xs e = record {
  count = rw e refl;
  narrow = rw e (λ k d h. absurd (omega arith));
  entries = λ k h. absurd (omega arith);
}

pub entries_more : (t : Content) (row cols n : ℕ) (xs ys : List ℤ) (x : ℤ) → AreEntries t row cols n xs → ys ≡ xs ++ x ∷ [] →
    x ≡ t.entry row (cols + n) → Narrow x → AreEntries t row cols (n + 1) ys
entries_more t row cols n xs ys x read e is narrow = record {
  count = push_length xs ys n x e read.count;
  narrow = rw e (All-push Narrow xs x read.narrow narrow);
  entries = push_step (λ k v. v ≡ t.entry row (cols + k)) (pos 0) xs ys n x e read.count read.entries is;
}

module _ (lp : LpView) (t : Content) (ready : IsReady lp t) where
  whole : IsTableauOf (length lp.rows) (length lp.rows + 3) (width lp) (start_entry lp) t.basic t.denom t.entry
  whole = whole_of lp t ready.open ready.reached

  -- One payoff row, which stands in this row of the tableau.
  module _ (player : Side) (row : ℕ) (in_rows : row < length lp.rows + 3) (behind : length lp.rows ≤ row)
      (free : (col : ℕ) → lp.cols ≤ col → start_entry lp row col ≡ pos 0)
      (negated : (col : ℕ) → col < lp.cols → start_entry lp row col ≡ neg_ℤ (payoff_of player lp col))
      (list : List ℤ) (read : AreEntries t row lp.cols (length lp.rows) list) where
    leaves : (col : ℕ) → col < lp.cols → left_over lp player t.denom list col ≡ t.entry row col
    leaves col l =
        ap (λ e. e -ℤ t.denom *ℤ payoff_of player lp col)
        (sum_to-same (length lp.rows) (λ r. slice_index_or list r (pos 0) *ℤ coefficient lp r col)
        (λ k. t.entry row (lp.cols + k) *ℤ start_entry lp k col)
        (λ k h. rw (read.entries k h, entry_program lp k col h l) refl))
        ∙ certified whole.program (whole.costs row behind in_rows) (λ k. lp.cols + k) (λ k h. omega arith) (units lp)
        (λ k h. free (lp.cols + k) (omega arith)) (payoff_of player lp) col (omega arith) (negated col l)

    first_is : IsProgram lp → number_in list 0 ≡ t.entry row (side lp)
    first_is program =
        let shown = multipliers whole.program (whole.costs row behind in_rows) (λ k. lp.cols + k) (λ k h. omega arith) (units lp)
        (λ k h. free (lp.cols + k) (omega arith)) (side lp) (omega arith) in
        let nothing = free (side lp) (omega arith) in
        let only = sum_to-one (length lp.rows) 0 (λ k. t.entry row (lp.cols + k) *ℤ start_entry lp k (side lp)) program.a_row
        (λ k h d. ap (λ e. t.entry row (lp.cols + k) *ℤ e) (entry_right lp k h ∙ program.zeros k (omega arith)) ∙ *ℤ-zero (t.entry row (lp.cols + k))) in
        let own = ap (λ e. t.entry row (lp.cols + 0) *ℤ e) (entry_right lp 0 program.a_row ∙ program.one) ∙ *ℤ-one (t.entry row (lp.cols + 0)) in
        read.entries 0 program.a_row ∙ sym (added (t.entry row (side lp)) _ t.denom (start_entry lp row (side lp)) shown nothing ∙ (only ∙ own))
      where
        added : (x a d c : ℤ) → x ≡ a +ℤ d *ℤ c → c ≡ pos 0 → x ≡ a
        added x a d c is none = let given = rw none at is in omega (arith, ints, *ℤ-zero d)

  module _ (made : SideRow) (dir_is : IsCoprime made.dir) (bounding : IsBounding t (length lp.rows) lp.cols made.dir) (den_is : made.den ≡ t.denom)
      (first : AreEntries t (length lp.rows) lp.cols (length lp.rows) made.first)
      (second : AreEntries t (length lp.rows + 1) lp.cols (length lp.rows) made.second) where
    first_leaves : (col : ℕ) → col < lp.cols → left_over lp One made.den made.first col ≡ t.entry (length lp.rows) col
    first_leaves col l =
        rw den_is
        (leaves One (length lp.rows) (omega arith) (omega arith) (first_behind lp) (first_program lp) made.first first col l)

    second_leaves : (col : ℕ) → col < lp.cols → left_over lp Two made.den made.second col ≡ t.entry (length lp.rows + 1) col
    second_leaves col l =
        rw den_is
        (leaves Two (length lp.rows + 1) (omega arith) (omega arith) (second_behind lp) (second_program lp) made.second second col l)

    -- The side that is made of them.
    pub side_shown : Narrow made.den → IsSideOf lp made
    side_shown narrow = record {
      coprime = dir_is;
      den = narrow;
      first = first.narrow;
      second = second.narrow;
      certified = record {
        positive = rw den_is whole.program.positive;
        first_each = first.count;
        second_each = second.count;
        not_below = λ col l. rw (first_leaves col l, second_leaves col l) (bounding col l);
      };
      narrow = λ col l. record {
        one = rw (first_leaves col l) (ready.open.rules.narrow ready.open.fresh (length lp.rows) col (omega (arith, ready.open.rows_are)) (omega (arith, ready.open.cols_are)));
        two = rw (second_leaves col l) (ready.open.rules.narrow ready.open.fresh (length lp.rows + 1) col (omega (arith, ready.open.rows_are)) (omega (arith, ready.open.cols_are)));
      };
    }

    -- Its point.
    pub point_shown : (found : SweptCorner) → IsProgram lp → Reaches t (length lp.rows) (side lp) found → IsPointOf made found
    point_shown found program reached = record {
      one = rw (first_is One (length lp.rows) (omega arith) (omega arith) (first_behind lp) (first_program lp) made.first first program, den_is) reached.one;
      two = rw (first_is Two (length lp.rows + 1) (omega arith) (omega arith) (second_behind lp) (second_program lp) made.second second program, den_is) reached.two;
    }
