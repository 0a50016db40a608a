-- A row is filled by its moves, one after the other, and then at the own sequence of its set, whose column is no move's.
use Rattle.std.proofs.Common.{◌≡◌, ◌≢◌, ℕ, ◌+◌, ◌<◌, ◌≤◌, ℤ, pos, negsuc, zero, suc, List, [], Some, length, slice_get, slice_index_or, replicate, refl, ap, ◌∙◌, inl, inr, arith}
use Rattle.std.proofs.lemmas.List.{length-replicate}
use Rattle.std.proofs.lemmas.Bool.{cases_lt}
use Rattle.corr_game.specs.declared.sides.Side.TheVariants.{One}
use Rattle.lp_form.specs.declared.entries.Entry.{Entry}
use Rattle.lp_form.specs.Row.{value_at}
use Rattle.lp_form.specs.Program.{LpView, blank, coefficient}
use Rattle.sequences.specs.declared.places.Place.{Place}
use Rattle.sequences.specs.Number.{Ends, IsOwn, count_of, side_of}
use Rattle.connected_pairs.specs.Connected.{PairsView, IsPairs, other}
use Rattle.plan_polytope.specs.declared.rows.Row.{Row}
use Rattle.plan_polytope.specs.CorrelationRow.{AreFilled, IsCorrelationRow, IsOfMove, IsTotalRow, column_of}
use Rattle.plan_polytope.specs.Placing.{Puts}
use Rattle.plan_polytope.proofs.Columns.{column_one, some_or_not}

-- a column is that of one of the first `count` moves
abbrev pub IsOfFirst : PairsView → Row → ℕ → ℕ → Type 0
IsOfFirst p row count k = (action : ℕ) × (seq : ℕ) × (action < count) × Ends (side_of row.side p.seqs).places (row.set, action) seq × (column_of p row.side seq row.beside ≡ Some k)

-- the first `count` moves have 1, the rest of the row has 0, and other rows are as before
pub record HasMoves (p : PairsView) (row : Row) (at count : ℕ) (before lp : LpView) : Type 0 where
  pub moves : (k : ℕ) → IsOfFirst p row count k → coefficient lp at k ≡ pos 1
  pub elsewhere : (k : ℕ) → (IsOfFirst p row count k → ⊥) → coefficient lp at k ≡ pos 0
  pub other_rows : (r k : ℕ) → r ≢ at → coefficient lp r k ≡ coefficient before r k

pub no_moves : (p : PairsView) (row : Row) (at : ℕ) (lp : LpView) → ((k : ℕ) → coefficient lp at k ≡ pos 0) → HasMoves p row at 0 lp lp
no_moves p row at lp all = record {
  moves = λ k h. absurd (omega (arith, h.2));
  elsewhere = λ k h. all k;
  other_rows = λ r k h. refl;
}

pub move_more : (p : PairsView) (row : Row) (at count seq : ℕ) (before mid after : LpView) → Ends (side_of row.side p.seqs).places (row.set, count) seq
    → HasMoves p row at count before mid → Puts (column_of p row.side seq row.beside) at (pos 1) mid after → HasMoves p row at (count + 1) before after
move_more p row at count seq before mid after ends h put = record {
  moves = λ k m. (elim (some_or_not (column_of p row.side seq row.beside) k) [
    | inl here ↦ put.there k here
    | inr apart ↦ (elim (cases_lt m.0 count) [
      | inl low ↦ put.elsewhere at k (inr apart) ∙ h.moves k (m.0, m.1, low, m.3, m.4)
      | inr high ↦ absurd (
          let last : m.0 ≡ count = omega (arith, m.2) in
          let places : m.3.0 ≡ ends.0 = cc (m.3.1, ends.1) in
          let firsts = ap (λ (x : Place). x.first) places in
          let same : m.1 ≡ seq = omega (arith, last, firsts, m.3.3, ends.3) in
          apart (rw (← same) m.4))
    ])
  ]);
  elsewhere = λ k none. (
      let apart : column_of p row.side seq row.beside ≢ Some k = λ e. none (count, seq, omega arith, ends, e) in
      put.elsewhere at k (inr apart) ∙ h.elsewhere k (λ m. none (m.0, m.1, omega (arith, m.2), m.3, m.4)));
  other_rows = λ r k apart. put.elsewhere r k (inl apart) ∙ h.other_rows r k apart;
}

-- the own sequence of a set has another number than its moves
pub own_apart : (p : PairsView) → IsPairs p → (row : Row) (own k : ℕ) → row.beside < count_of (side_of (other row.side) p.seqs) → IsOwn (side_of row.side p.seqs) row.set.0 own
    → column_of p row.side own row.beside ≡ Some k → IsOfMove p row k → ⊥
own_apart p rules row own k in_range is e m =
    let side = rules.sides row.side in
    let places : m.2.0 ≡ is.0 = cc (m.2.1, is.1) in
    let firsts = ap (λ (x : Place). x.first) places in
    let low = side.numbered.own_before row.set.0 is.0 is.1 in
    let end = side.numbered.in_range row.set.0 m.2.0 m.2.1 in
    let seq_in : m.1 < count_of (side_of row.side p.seqs) = omega (arith, end, m.2.2, m.2.3) in
    let own_in : own < count_of (side_of row.side p.seqs) = omega (arith, end, firsts, low, is.2) in
    omega (arith, column_one p rules row.side own m.1 row.beside k own_in seq_in in_range e m.3, firsts, low, is.2, m.2.3)

pub row_filled : (p : PairsView) → IsPairs p → (row : Row) (at count own : ℕ) (before mid after : LpView) → row.beside < count_of (side_of (other row.side) p.seqs)
    → ((place : Place) → slice_get (side_of row.side p.seqs).places row.set.0 ≡ Some place → place.actions ≡ count)
    → IsOwn (side_of row.side p.seqs) row.set.0 own → HasMoves p row at count before mid → Puts (column_of p row.side own row.beside) at (negsuc 0) mid after → IsCorrelationRow p row after at
row_filled p rules row at count own before mid after in_range all is h put = record {
  moves = λ k m. (
      let apart : column_of p row.side own row.beside ≢ Some k = λ e. own_apart p rules row own k in_range is e m in
      put.elsewhere at k (inr apart) ∙ h.moves k (m.0, m.1, omega (arith, m.2.2, all m.2.0 m.2.1), m.2, m.3));
  own = λ k m. (
      let places : m.1.0 ≡ is.0 = cc (m.1.1, is.1) in
      let owns = ap (λ (x : Place). x.own) places in
      let same : m.0 ≡ own = omega (arith, owns, m.1.2, is.2) in
      put.there k (rw (← same) m.2));
  elsewhere = λ k no_move no_own. (
      let apart : column_of p row.side own row.beside ≢ Some k = λ e. no_own (own, is, e) in
      put.elsewhere at k (inr apart) ∙ h.elsewhere k (λ m. no_move (m.0, m.1, m.3, m.4)));
}

-- the first `count` rows stand behind the first row, which is as before, and the rest is 0
pub record HasRows (p : PairsView) (rows : List Row) (count : ℕ) (before lp : LpView) : Type 0 where
  pub done : (r : ℕ) (row : Row) → r < count → slice_get rows r ≡ Some row → IsCorrelationRow p row lp (r + 1)
  pub first_row : (k : ℕ) → coefficient lp 0 k ≡ coefficient before 0 k
  pub ahead : (r k : ℕ) → count ≤ r → coefficient lp (r + 1) k ≡ pos 0

pub no_rows : (p : PairsView) (rows : List Row) (lp : LpView) → ((r k : ℕ) → coefficient lp (r + 1) k ≡ pos 0) → HasRows p rows 0 lp lp
no_rows p rows lp all = record {
  done = λ r row low e. absurd (omega arith);
  first_row = λ k. refl;
  ahead = λ r k low. all r k;
}

row_still : (p : PairsView) (row : Row) (r : ℕ) (a b : LpView) → ((k : ℕ) → coefficient b r k ≡ coefficient a r k) → IsCorrelationRow p row a r → IsCorrelationRow p row b r
row_still p row r a b same h = record {
  moves = λ k m. same k ∙ h.moves k m;
  own = λ k m. same k ∙ h.own k m;
  elsewhere = λ k no_move no_own. same k ∙ h.elsewhere k no_move no_own;
}

pub row_more : (p : PairsView) (rows : List Row) (count : ℕ) (here : Row) (before mid after : LpView) → slice_get rows count ≡ Some here → HasRows p rows count before mid → IsCorrelationRow p here after (count + 1)
    → ((r k : ℕ) → r ≢ count + 1 → coefficient after r k ≡ coefficient mid r k) → HasRows p rows (count + 1) before after
row_more p rows count here before mid after at h filled others = record {
  done = λ r row low e. (elim (cases_lt r count) [
    | inl lower ↦ row_still p row (r + 1) mid after (λ k. others (r + 1) k (λ same. omega (arith, lower, same))) (h.done r row lower e)
    | inr last ↦ (
        let same : r ≡ count = omega (arith, low, last) in
        let row_same : row ≡ here = cc (e, at, same) in
        rw (row_same, same) filled)
  ]);
  first_row = λ k. others 0 k (λ same. omega (arith, same)) ∙ h.first_row k;
  ahead = λ r k low. others (r + 1) k (λ same. omega (arith, low, same)) ∙ h.ahead r k (omega arith);
}

rows_0 : (n r k : ℕ) → (let none : List Entry = [] in value_at (slice_index_or (replicate n none) r none) k ≡ pos 0)
rows_0 zero r k = refl
rows_0 (suc n) zero k = refl
rows_0 (suc n) (suc r) k = rows_0 n r k

pub blank_0 : (lp : LpView) (rows cols : ℕ) → lp ≡ blank rows cols → (r k : ℕ) → coefficient lp r k ≡ pos 0
blank_0 lp rows cols e r k = ap (λ (x : LpView). coefficient x r k) e ∙ rows_0 rows r k

pub blank_count : (lp : LpView) (rows cols : ℕ) → lp ≡ blank rows cols → length lp.rows ≡ rows
blank_count lp rows cols e =
    let none : List Entry = [] in
    ap (λ (x : LpView). length x.rows) e ∙ length-replicate rows none

-- right sides are no matter to coefficients
pub right_apart : (a b : LpView) (rights : List ℤ) → b ≡ record a { rights = rights } → (r k : ℕ) → coefficient b r k ≡ coefficient a r k
right_apart a b rights e r k = ap (λ (x : LpView). coefficient x r k) e

-- coefficients stand in the rows alone
pub rows_still : (a b : LpView) → b.rows ≡ a.rows → (r k : ℕ) → coefficient b r k ≡ coefficient a r k
rows_still a b e r k =
    let none : List Entry = [] in
    ap (λ (rows : List (List Entry)). value_at (slice_index_or rows r none) k) e

pub filled_still : (p : PairsView) (rows : List Row) (a b : LpView) → ((r k : ℕ) → coefficient b r k ≡ coefficient a r k) → AreFilled p rows a → AreFilled p rows b
filled_still p rows a b same h = λ r row e. row_still p row (r + 1) a b (λ k. same (r + 1) k) (h r row e)

-- a first row of 0 in which the pair of empty sequences gets 1 is the total row
pub total_put : (p : PairsView) (before mid after : LpView) → ((k : ℕ) → coefficient before 0 k ≡ pos 0) → Puts (column_of p One 0 0) 0 (pos 1) before mid → ((k : ℕ) → coefficient after 0 k ≡ coefficient mid 0 k) → IsTotalRow p after 0
total_put p before mid after all put same = record {
  empty = λ k e. same k ∙ put.there k e;
  elsewhere = λ k apart. same k ∙ put.elsewhere 0 k (inr apart) ∙ all k;
}
