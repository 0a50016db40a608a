-- A notion has one program, but for how its rows are stored: sizes are counted, the correlation rows stand in one order, and each
-- coefficient is known by its row and column.
use Rattle.std.proofs.Common.{◌≡◌, ◌≢◌, ◌⊎◌, inl, inr, ⊎_elim, ℕ, zero, suc, ◌+◌, ◌<◌, List, Option, Some, None, length, slice_get}
use Rattle.std.proofs.Common.{get_or, [], ℤ, pos, negsuc, refl, sym, ap, subst, ◌∙◌, arith}
use Rattle.std.proofs.lemmas.Bool.{cases_eq, cases_lt, cases_order}
use Rattle.std.proofs.lemmas.List.{get_or-append-add, length-append}
use Rattle.std.proofs.lemmas.Option.{slice_get-get_or, slice_get_within}
use Rattle.sequences.proofs.Adding.{within}
use Rattle.corr_game.specs.declared.notions.Notion.{Notion}
use Rattle.corr_game.specs.declared.sides.Side.{Side}
use Rattle.corr_game.specs.declared.sides.Side.TheVariants.{One, Two}
use Rattle.corr_game.specs.Game.{GameView}
use Rattle.connected_pairs.specs.Connected.{PairsView, index_of}
use Rattle.incentive_rows.proofs.Counts.{correlation_one, incentives_one, total_one}
use Rattle.incentive_rows.proofs.Parts.{for_as}
use Rattle.incentive_rows.specs.Size.{row_each, value_each}
use Rattle.lp_form.proofs.Solving.{row_in_front}
use Rattle.lp_form.specs.declared.entries.Entry.{Entry}
use Rattle.lp_form.specs.Program.{LpView, coefficient, entries_of, joined, payoff_of, right_of}
use Rattle.lp_form.specs.Row.{value_at}
use Rattle.plan_polytope.specs.declared.rows.Row.{Row}
use Rattle.plan_polytope.specs.CorrelationRow.{IsCorrelationRow, IsOfMove, IsOfOwn, IsTotalRow}
use Rattle.plan_polytope.specs.NotionProgram.{IsProgramOf}
use Rattle.plan_polytope.specs.RowOrder.{AreAllRows, ComesBefore, IsBefore, IsLower}
use Rattle.plan_polytope.specs.Rows.{AreCorrelationRows}
use Rattle.plan_polytope.proofs.OneIncentives.{for_one, rest_of}

-- ---- the rows in order

not_lower : (row : Row) → IsLower row row.set.0 row.beside → ⊥
not_lower row (inl h) = absurd (omega arith)
not_lower row (inr h) = absurd (omega (arith, h.1))

not_both_lower : (a b : Row) → IsLower a b.set.0 b.beside → IsLower b a.set.0 a.beside → ⊥
not_both_lower a b (inl h) (inl k) = absurd (omega arith)
not_both_lower a b (inl h) (inr k) = absurd (omega (arith, k.0))
not_both_lower a b (inr h) (inl k) = absurd (omega (arith, h.0))
not_both_lower a b (inr h) (inr k) = absurd (omega (arith, h.1, k.1))

apart : One ≡ Two → ⊥
apart e = cc

before_by : (row : Row) (side : Side) (set beside : ℕ) → row.side ≡ side → IsBefore row side set beside → IsLower row set beside
before_by row One set beside e h = h.1
before_by row Two set beside e (inl h) = absurd (apart (sym h ∙ e))
before_by row Two set beside e (inr h) = h.1

not_before_itself : (a : Row) → ComesBefore a a → ⊥
not_before_itself a h = not_lower a (before_by a a.side a.set.0 a.beside refl h)

both_before : (a b : Row) (s t : Side) → a.side ≡ s → b.side ≡ t → IsBefore a t b.set.0 b.beside → IsBefore b s a.set.0 a.beside → ⊥
both_before a b One One e f h k = not_both_lower a b h.1 k.1
both_before a b One Two e f h k = absurd (apart (sym k.0 ∙ f))
both_before a b Two One e f h k = absurd (apart (sym h.0 ∙ e))
both_before a b Two Two e f h k = not_both_lower a b (before_by a Two b.set.0 b.beside e h) (before_by b Two a.set.0 a.beside f k)

module _ (g : GameView) (p : PairsView) (xs ys : List Row) (first : AreAllRows g p xs) (second : AreAllRows g p ys) where
  -- where the rows agree below r, they agree there
  agree_at : (r : ℕ) → ((j : ℕ) (x y : Row) → j < r → slice_get xs j ≡ Some x → slice_get ys j ≡ Some y → x ≡ y)
      → (x y : Row) → slice_get xs r ≡ Some x → slice_get ys r ≡ Some y → x ≡ y
  agree_at r below x y at here =
      let i = first.all y (second.each r y here) in
      let j = second.all x (first.each r x at) in
      elim (cases_order i.0 r) [
        | inl same ↦
            let there : slice_get xs r ≡ Some y = rw same at i.1 in
            cc (at, there)
        | inr apart_i ↦ elim apart_i [
          | inl low ↦
              let other = slice_get-get_or ys i.0 y (omega (arith, slice_get_within ys r y here, low)) in
              let alike : y ≡ get_or ys i.0 y = below i.0 y (get_or ys i.0 y) low i.1 other in
              absurd (not_before_itself y (second.in_order i.0 r y y low (rw (← alike) at other) here))
          | inr high ↦ elim (cases_order j.0 r) [
            | inl same ↦
                let there : slice_get ys r ≡ Some x = rw same at j.1 in
                cc (here, there)
            | inr apart_j ↦ elim apart_j [
              | inl low ↦
                  let other = slice_get-get_or xs j.0 x (omega (arith, slice_get_within xs r x at, low)) in
                  let alike : get_or xs j.0 x ≡ x = below j.0 (get_or xs j.0 x) x low other j.1 in
                  absurd (not_before_itself x (first.in_order j.0 r x x low (rw alike at other) at))
              | inr far ↦
                  absurd (both_before x y x.side y.side refl refl (first.in_order r i.0 x y high at i.1)
                  (second.in_order r j.0 y x far here j.1))
            ]
          ]
        ]
      ]

  agree_below : (n r : ℕ) → r < n → (x y : Row) → slice_get xs r ≡ Some x → slice_get ys r ≡ Some y → x ≡ y
  agree_below zero r low x y at here = absurd (omega arith)
  agree_below (suc n) r low x y at here = agree_at r (λ j u v less e f. agree_below n j (omega arith) u v e f) x y at here

  pub rows_agree : (r : ℕ) (x y : Row) → slice_get xs r ≡ Some x → slice_get ys r ≡ Some y → x ≡ y
  rows_agree r x y at here = agree_below (suc r) r (omega arith) x y at here

-- ---- coefficients of the correlation rows

int_cases : (a b : ℤ) → (a ≡ b) ⊎ (a ≡ b → ⊥)
int_cases (pos m) (pos n) = ⊎_elim
    (λ (e : m ≡ n). inl (ap (λ (k : ℕ). pos k) e)) (λ (other : m ≢ n). inr (λ (h : pos m ≡ pos n). other (number h))) (cases_eq m n)
  where
    number : pos m ≡ pos n → m ≡ n
    number h = cc
int_cases (pos m) (negsuc n) = inr (λ (h : pos m ≡ negsuc n). absurd (cc))
int_cases (negsuc m) (pos n) = inr (λ (h : negsuc m ≡ pos n). absurd (cc))
int_cases (negsuc m) (negsuc n) = ⊎_elim
    (λ (e : m ≡ n). inl (ap (λ (k : ℕ). negsuc k) e)) (λ (other : m ≢ n). inr (λ (h : negsuc m ≡ negsuc n). other (number h)))
    (cases_eq m n)
  where
    number : negsuc m ≡ negsuc n → m ≡ n
    number h = cc

total_row_one : (p : PairsView) (a b : LpView) (k : ℕ) → IsTotalRow p a 0 → IsTotalRow p b 0 → (there : Option ℕ) → index_of p 0 0 ≡ there
    → coefficient a 0 k ≡ coefficient b 0 k
total_row_one p a b k x y None e =
    let away : index_of p 0 0 ≢ Some k = λ f. absurd (cc (e, f)) in
    x.elsewhere k away ∙ sym (y.elsewhere k away)
total_row_one p a b k x y (Some j) e = ⊎_elim
    (λ (same : j ≡ k). (let here : index_of p 0 0 ≡ Some k = e ∙ ap (λ (n : ℕ). Some n) same in x.empty k here ∙ sym (y.empty k here)))
    (λ (other : j ≢ k). (let away : index_of p 0 0 ≢ Some k = λ f. other (one_number (sym e ∙ f)) in
    x.elsewhere k away ∙ sym (y.elsewhere k away)))
    (cases_eq j k)
  where
    one_number : Some j ≡ Some k → j ≡ k
    one_number h = cc

row_one : (p : PairsView) (row : Row) (a b : LpView) (r k : ℕ) → IsCorrelationRow p row a r → IsCorrelationRow p row b r
    → coefficient a r k ≡ coefficient b r k
row_one p row a b r k x y = elim (int_cases (coefficient a r k) (coefficient b r k)) [
  | inl same ↦ same
  | inr other ↦
      let no_move : IsOfMove p row k → ⊥ = λ is. other (x.moves k is ∙ sym (y.moves k is)) in
      let no_own : IsOfOwn p row k → ⊥ = λ is. other (x.own k is ∙ sym (y.own k is)) in
      x.elsewhere k no_move no_own ∙ sym (y.elsewhere k no_move no_own)
]

base_one : (g : GameView) (p : PairsView) (a b : LpView) → AreCorrelationRows g p a → AreCorrelationRows g p b → (r k : ℕ)
    → r < length a.rows → r < length b.rows → coefficient a r k ≡ coefficient b r k
base_one g p a b x y zero k low less = total_row_one p a b k x.total y.total (index_of p 0 0) refl
base_one g p a b x y (suc r) k low less =
    let there = item x.rows r (omega (arith, x.count)) in
    let here = item y.rows r (omega (arith, y.count)) in
    let same = rows_agree g p x.rows y.rows x.listed y.listed r there.0 here.0 there.1 here.1 in
    let P : Row → Type 0 = λ row. IsCorrelationRow p row a (r + 1) in
    let number : suc r ≡ r + 1 = omega arith in
    rw number (row_one p here.0 a b (r + 1) k (subst P same (x.filled r there.0 there.1)) (y.filled r here.0 here.1))
  where
    item : (rows : List Row) (n : ℕ) → n < length rows → (row : Row) × (slice_get rows n ≡ Some row)
    item rows n h = within rows n h

-- ---- the whole

row_behind : (base more : LpView) (row : ℕ) → entries_of (joined base more) (length base.rows + row) ≡ entries_of more row
row_behind base more row = get_or-append-add base.rows more.rows row []

module _ (g : GameView) (p : PairsView) (notion : Notion) (a b : LpView) (x : IsProgramOf g p notion a) (y : IsProgramOf g p notion b) where
  sizes : (x.incentives ≡ y.incentives) × (x.values ≡ y.values)
  sizes = incentives_one notion g p x.incentives x.values y.incentives y.values x.size y.size

  pub one_cols : a.cols ≡ b.cols
  one_cols =
      let first = ap (λ (l : LpView). l.cols) x.parts in
      let second = ap (λ (l : LpView). l.cols) y.parts in
      omega (arith, first, second, x.all_columns, y.all_columns, sizes.0, sizes.1)

  base_rows : length x.base.rows ≡ length y.base.rows
  base_rows =
      let u = x.correlation.both_players in
      let v = y.correlation.both_players in
      omega (
        arith,
        x.correlation.count,
        y.correlation.count,
        u.4,
        v.4,
        correlation_one g p One u.0 v.0 u.2 v.2,
        correlation_one g p Two u.1 v.1 u.3 v.3,
      )

  all_rows : (lp : LpView) (of : IsProgramOf g p notion lp) → length lp.rows ≡ length of.base.rows + length of.more.rows
  all_rows lp of = ap (λ (l : LpView). length l.rows) of.parts ∙ length-append of.base.rows of.more.rows

  pub one_count : length a.rows ≡ length b.rows
  one_count = omega (arith, all_rows a x, all_rows b y, base_rows, x.count, y.count, sizes.0)

  pub one_right : (row : ℕ) → right_of a row ≡ right_of b row
  one_right zero = x.right_sides.one ∙ sym y.right_sides.one
  one_right (suc row) = x.right_sides.zeros (suc row) (omega arith) ∙ sym (y.right_sides.zeros (suc row) (omega arith))

  payoff_in_base : (lp : LpView) (of : IsProgramOf g p notion lp) (side : Side) (k : ℕ) → payoff_of side lp k ≡ payoff_of side of.base k
  payoff_in_base lp of One k = ap (λ (l : LpView). payoff_of One l k) of.parts
  payoff_in_base lp of Two k = ap (λ (l : LpView). payoff_of Two l k) of.parts

  pub one_payoff : (side : Side) (k : ℕ) → payoff_of side a k ≡ payoff_of side b k
  one_payoff side k =
      payoff_in_base a x side k ∙ x.payoffs.each side k ∙ sym (payoff_in_base b y side k ∙ y.payoffs.each side k)

  in_base : (lp : LpView) (of : IsProgramOf g p notion lp) (row k : ℕ) → row < length of.base.rows
      → coefficient lp row k ≡ coefficient of.base row k
  in_base lp of row k low =
      ap (λ (l : LpView). coefficient l row k) of.parts
      ∙ ap (λ (entries : List Entry). value_at entries k) (row_in_front of.base of.more row low)

  in_more : (lp : LpView) (of : IsProgramOf g p notion lp) (row k : ℕ)
      → coefficient lp (length of.base.rows + row) k ≡ coefficient of.more row k
  in_more lp of row k =
      ap (λ (l : LpView). coefficient l (length of.base.rows + row) k) of.parts
      ∙ ap (λ (entries : List Entry). value_at entries k) (row_behind of.base of.more row)

  -- the same incentive rows over the same columns
  more_one : (row k : ℕ) → row < x.incentives → coefficient x.more row k ≡ coefficient y.more row k
  more_one row k low =
      let rows_one = total_one row_each 1 notion g p One x.size.rows_one y.size.rows_one x.size.of_one y.size.of_one in
      let values_one = total_one value_each 0 notion g p One x.size.values_one y.size.values_one x.size.values_of_one
      y.size.values_of_one in
      let cols : y.more.cols ≡ x.more.cols = omega (arith, x.all_columns, y.all_columns, sizes.0, sizes.1) in
      let floor : length p.pairs + y.values ≡ length p.pairs + x.values = omega (arith, sizes.1) in
      elim (cases_lt row x.size.rows_one) [
        | inl first ↦
            let other = for_as notion g p One 0 0 (length p.pairs + y.values) y.more.cols 0 0 (length p.pairs + x.values) x.more.cols y.more y.of_one
            refl refl (sym floor) (sym cols) in
            let number : 0 + row ≡ row = omega arith in
            rw number at (for_one notion g p One 0 0 (length p.pairs + x.values) x.more.cols x.size.rows_one x.size.values_one x.more y.more
            x.of_one other x.size.of_one x.size.values_of_one row k first)
        | inr behind ↦
            let rest = rest_of x.size.rows_one row behind in
            let other = for_as notion g p Two y.size.rows_one y.size.values_one (length p.pairs + y.values) y.more.cols x.size.rows_one
            x.size.values_one (length p.pairs + x.values) x.more.cols y.more y.of_two rows_one values_one (sym floor) (sym cols) in
            rw rest.1 (for_one notion g p Two x.size.rows_one x.size.values_one (length p.pairs + x.values) x.more.cols
            x.size.rows_two x.size.values_two x.more y.more x.of_two other x.size.of_two x.size.values_of_two rest.0 k
            (omega (arith, rest.1, x.size.all_rows)))
      ]

  pub one_coefficient : (row k : ℕ) → row < length a.rows → coefficient a row k ≡ coefficient b row k
  one_coefficient row k low = elim (cases_lt row (length x.base.rows)) [
    | inl front ↦
        in_base a x row k front
        ∙ base_one g p x.base y.base x.correlation y.correlation row k front (omega (arith, base_rows))
        ∙ sym (in_base b y row k (omega (arith, base_rows)))
    | inr behind ↦
        let rest = rest_of (length x.base.rows) row behind in
        let other : row ≡ length y.base.rows + rest.0 = omega (arith, rest.1, base_rows) in
        ap (λ (n : ℕ). coefficient a n k) rest.1
        ∙ in_more a x rest.0 k
        ∙ more_one rest.0 k (omega (arith, all_rows a x, x.count, rest.1))
        ∙ sym (in_more b y rest.0 k)
        ∙ sym (ap (λ (n : ℕ). coefficient b n k) other)
  ]
