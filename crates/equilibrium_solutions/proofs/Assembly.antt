-- A solution of a notion's program from numbers at the pairs that meet the correlation rows, and values of each trigger's sets that are
-- worth no more than following: the values are lifted over a floor, and each row's slack is what the row leaves for it.
use Rattle.std.proofs.Common.{◌≡◌, ◌↔◌, inl, inr, ℕ, zero, suc, ◌+◌, ◌<◌, ◌≤◌, List, [], length, true, ℤ, pos, ◌+ℤ◌, ◌-ℤ◌, ◌*ℤ◌}
use Rattle.std.proofs.Common.{◌≤ℤ◌, sym, ap, subst, ◌∙◌, arith}
use Rattle.std.proofs.lemmas.Bool.{cases_lt}
use Rattle.std.proofs.lemmas.Int.{ints}
use Rattle.std.proofs.lemmas.List.{get_or-append-add, length-append}
use Rattle.exact_algebra.specs.Sums.{sum_to}
use Rattle.exact_algebra.proofs.RingLaws.{*ℤ-zero, +ℤ_idr, zero-*ℤ}
use Rattle.exact_algebra.proofs.Sums.{sum_to-nothing, sum_to-same, sum_to-split}
use Rattle.corr_game.specs.declared.notions.Notion.{Notion}
use Rattle.corr_game.specs.declared.sides.Side.{Side}
use Rattle.corr_game.specs.Game.{GameView, sets_of}
use Rattle.sequences.proofs.Adding.{within}
use Rattle.sequences.specs.Number.{side_of}
use Rattle.lp_form.proofs.Solving.{row_in_front}
use Rattle.lp_form.specs.declared.entries.Entry.{Entry}
use Rattle.lp_form.specs.Program.{IsProgram, LpView, coefficient, right_of}
use Rattle.lp_form.specs.Row.{value_at}
use Rattle.lp_form.specs.Solutions.{IsSolution}
use Rattle.connected_pairs.proofs.Indices.{index_in}
use Rattle.connected_pairs.specs.Connected.{IsPairs, PairsView}
use Rattle.incentive_rows.specs.declared.triggers.Trigger.{Trigger}
use Rattle.incentive_rows.specs.Standing.{HasRowsOf}
use Rattle.incentive_rows.specs.Trigger.{HasSet}
use Rattle.plan_polytope.proofs.Columns.{column_in}
use Rattle.plan_polytope.proofs.OneIncentives.{rest_of}
use Rattle.plan_polytope.specs.NotionProgram.{IsProgramOf}
use Rattle.plan_polytope.specs.Rows.{AreCorrelationRows}
use Rattle.equilibrium_solutions.proofs.BlockRows.{AreNumbers, Leaves, RowsSay, block_leaves, numbers}
use Rattle.equilibrium_solutions.proofs.Spreading.{chosen, lift_of}
use Rattle.equilibrium_solutions.proofs.ValueColumns.{HasRow, value_columns}
use Rattle.equilibrium_solutions.specs.Departure.{OwnSequences, is_of}
use Rattle.equilibrium_solutions.specs.Values.{HasValues, IsProgramTrigger}

-- ---- the correlation rows

-- they have nothing behind the pairs
pub nothing_behind_pairs : (g : GameView) (p : PairsView) → IsPairs p → (base : LpView) → AreCorrelationRows g p base → (row k : ℕ)
    → row < length base.rows → length p.pairs ≤ k → coefficient base row k ≡ pos 0
nothing_behind_pairs g p rules base correlation zero k low far =
    correlation.total.elsewhere k (λ e. (let near = index_in p rules 0 0 k e in absurd (omega (arith, near, far))))
nothing_behind_pairs g p rules base correlation (suc r) k low far =
    let found = within correlation.rows r (omega (arith, low, correlation.count)) in
    let row = found.0 in
    let number : suc r ≡ r + 1 = omega arith in
    rw number ((correlation.filled r row found.1).elsewhere k
    (λ is. (let near = column_in p rules row.side is.1 row.beside k is.3 in absurd (omega (arith, near, far))))
    (λ is. (let near = column_in p rules row.side is.0 row.beside k is.2 in absurd (omega (arith, near, far)))))

-- a sum whose terms behind some place are 0 ends there
sum_in_front : (n m : ℕ) (f : ℕ → ℤ) → ((k : ℕ) → n ≤ k → f k ≡ pos 0) → sum_to (n + m) f ≡ sum_to n f
sum_in_front n m f nothing =
    let rest = sum_to-nothing m (λ k. f (n + k)) (λ k low. nothing (n + k) (omega arith)) in
    sum_to-split n m f ∙ ap (λ (s : ℤ). sum_to n f +ℤ s) rest ∙ +ℤ_idr (sum_to n f)

-- ---- the solution

taken_up : (left total right : ℤ) → right ≡ pos 0 → left -ℤ left ≡ total *ℤ right
taken_up left total right none =
    let nothing : left -ℤ left ≡ pos 0 = omega (arith, ints) in
    nothing ∙ sym (*ℤ-zero total) ∙ sym (ap (λ (r : ℤ). total *ℤ r) none)

module _ (notion : Notion) (g : GameView) (p : PairsView) (lp : LpView) (rules : IsPairs p) (program : IsProgramOf g p notion lp)
    (own : (side : Side) → OwnSequences side g) (x : ℕ → ℤ)
    (each : (side : Side) (trigger : Trigger) → IsProgramTrigger notion g p side trigger → HasValues g p trigger (own trigger.side) x)
    (known : (side : Side) (trigger : Trigger) → IsProgramTrigger notion g p side trigger → (set : ℕ)
    → set < length (sets_of trigger.side g)
    → HasSet (side_of trigger.side p.seqs) trigger.set set ↔ (is_of trigger.side g trigger.set set ≡ true))
    (says : (side : Side) (trigger : Trigger) → IsProgramTrigger notion g p side trigger → (first values : ℕ)
    → (block : HasRowsOf g p trigger first values (length p.pairs + program.values) program.more.cols program.more)
    → values + block.value_count ≤ program.values → first + block.row_count < program.incentives → (y : ℕ → ℤ)
    → RowsSay g p trigger (own trigger.side) first values (length p.pairs + program.values) program.more.cols program.more block y) where
  -- one number that each incentive row leaves for its slack
  each_leaves : (f : ℕ → ℤ) → ((row : ℕ) → row < program.incentives → (side : Side)
      × HasRow notion g p own x side (length p.pairs + program.values) program.more.cols program.values program.more 0 row f)
      → (lift : ℤ) (row : ℕ) → row < program.incentives
      → (left : ℤ) × Leaves (length p.pairs) program.values program.more.cols program.more x f lift row left
  each_leaves f found lift row low =
      let place = found row low in
      let side = place.0 in
      let has = place.1 in
      let known_here = known side has.trigger has.which in
      let inside : has.first + has.block.row_count < program.incentives = omega (arith, has.block.inside, program.count) in
      let room : 0 + has.at + has.block.value_count ≤ program.values = omega (arith, has.room) in
      let says_here = says side has.trigger has.which has.first (0 + has.at) has.block room inside in
      let left = block_leaves notion g p rules own x side program.values program.more.cols program.more f lift has.trigger has.first has.at
      has.block has.room has.columns known_here says_here has.r has.low in
      subst (λ (n : ℕ). (left : ℤ) × Leaves (length p.pairs) program.values program.more.cols program.more x f lift n left)
      (sym has.stands) left

  -- values, a lift and slacks by which the incentive rows are met
  record Parts : Type 0 where
    pub values : ℕ → ℤ
    pub lift : ℤ
    pub slacks : ℕ → ℤ
    pub lift_not_negative : pos 0 ≤ℤ lift
    pub lifted : (k : ℕ) → k < program.values → pos 0 ≤ℤ (values k +ℤ lift)
    pub leaves : (row : ℕ) → row < program.incentives
        → Leaves (length p.pairs) program.values program.more.cols program.more x values lift row (slacks row)

  parts : Parts
  parts =
      let found = value_columns g p own x notion lp program each in
      let lift = lift_of program.values found.0 in
      let Good : ℕ → ℤ → Type 0 =
      λ row left. Leaves (length p.pairs) program.values program.more.cols program.more x found.0 lift.0 row left in
      let slacks = chosen (pos 0) Good program.incentives (each_leaves found.0 found.1 lift.0) in
      record {
        values = found.0;
        lift = lift.0;
        slacks = slacks.0;
        lift_not_negative = lift.1.not_negative;
        lifted = lift.1.each;
        leaves = slacks.1;
      }

  columns_of_lp : lp.cols ≡ length p.pairs + program.values + 1 + program.incentives
  columns_of_lp = ap (λ (l : LpView). l.cols) program.parts ∙ program.all_columns

  rows_of_lp : length lp.rows ≡ length program.base.rows + program.incentives
  rows_of_lp =
      let both = ap (λ (l : LpView). length l.rows) program.parts in
      let all = length-append program.base.rows program.more.rows in
      omega (arith, both, all, program.count)

  in_base : (row k : ℕ) → row < length program.base.rows → coefficient lp row k ≡ coefficient program.base row k
  in_base row k low =
      ap (λ (l : LpView). coefficient l row k) program.parts
      ∙ ap (λ (entries : List Entry). value_at entries k) (row_in_front program.base program.more row low)

  in_more : (row k : ℕ) → coefficient lp (length program.base.rows + row) k ≡ coefficient program.more row k
  in_more row k =
      ap (λ (l : LpView). coefficient l (length program.base.rows + row) k) program.parts
      ∙ ap (λ (entries : List Entry). value_at entries k) (get_or-append-add program.base.rows program.more.rows row [])

  module _ (found : Parts) (y : ℕ → ℤ)
      (here : AreNumbers (length p.pairs) program.values x found.values found.lift found.slacks y) where
    numbers_not_negative : ((k : ℕ) → k < length p.pairs → pos 0 ≤ℤ x k) → (col : ℕ) → col < lp.cols → pos 0 ≤ℤ y col
    numbers_not_negative not_negative col low = elim (cases_lt col (length p.pairs)) [
      | inl pair ↦ rw (here.at_pairs col pair) (not_negative col pair)
      | inr behind_pairs ↦
          let first = rest_of (length p.pairs) col behind_pairs in
          elim (cases_lt first.0 program.values) [
            | inl value ↦ rw (first.1, here.at_values first.0 value) (found.lifted first.0 value)
            | inr behind_values ↦
                let second = rest_of program.values first.0 behind_values in
                elim (cases_lt second.0 1) [
                  | inl floor ↦
                      let place : col ≡ length p.pairs + program.values = omega (arith, first.1, second.1, floor) in
                      rw (place, here.at_floor) found.lift_not_negative
                  | inr slack ↦
                      let third = rest_of 1 second.0 slack in
                      let place : col ≡ length p.pairs + program.values + 1 + third.0 = omega (arith, first.1, second.1, third.1) in
                      rw (place, here.at_slacks third.0)
                      (found.leaves third.0 (omega (arith, low, columns_of_lp, place))).not_negative
                ]
          ]
    ]

    base_product : (row : ℕ) → row < length program.base.rows
        → sum_to lp.cols (λ k. coefficient lp row k *ℤ y k) ≡ sum_to program.base.cols (λ k. coefficient program.base row k *ℤ x k)
    base_product row low =
        let n = length p.pairs in
        let term = λ (k : ℕ). coefficient program.base row k *ℤ y k in
        let behind_pairs : lp.cols ≡ n + (program.values + 1 + program.incentives) = omega (arith, columns_of_lp) in
        let nothing : (k : ℕ) → n ≤ k → term k ≡ pos 0 =
        λ k far. ap (λ (c : ℤ). c *ℤ y k) (nothing_behind_pairs g p rules program.base program.correlation row k low far) ∙ zero-*ℤ (y k) in
        sum_to-same lp.cols _ _ (λ k less. ap (λ (c : ℤ). c *ℤ y k) (in_base row k low))
        ∙ ap (λ (m : ℕ). sum_to m term) behind_pairs
        ∙ sum_in_front n (program.values + 1 + program.incentives) term nothing
        ∙ sum_to-same n _ _ (λ k less. ap (λ (v : ℤ). coefficient program.base row k *ℤ v) (here.at_pairs k less))
        ∙ ap (λ (m : ℕ). sum_to m (λ k. coefficient program.base row k *ℤ x k)) (sym program.columns)

    more_product : (row : ℕ) → row < program.incentives
        → sum_to lp.cols (λ k. coefficient lp (length program.base.rows + row) k *ℤ y k) ≡ found.slacks row -ℤ found.slacks row
    more_product row low =
        let cols : lp.cols ≡ program.more.cols = ap (λ (l : LpView). l.cols) program.parts in
        sum_to-same lp.cols _ _ (λ k less. ap (λ (c : ℤ). c *ℤ y k) (in_more row k))
        ∙ ap (λ (m : ℕ). sum_to m (λ k. coefficient program.more row k *ℤ y k)) cols
        ∙ (found.leaves row low).each found.slacks y here

  -- numbers at the pairs extend to a solution
  pub solution_of_values : (total : ℤ) → ((k : ℕ) → k < length p.pairs → pos 0 ≤ℤ x k)
      → ((row : ℕ) → row < length program.base.rows
      → sum_to program.base.cols (λ k. coefficient program.base row k *ℤ x k) ≡ total *ℤ right_of lp row)
      → (y : ℕ → ℤ) × ((k : ℕ) → k < length p.pairs → y k ≡ x k) × IsSolution lp total y
  solution_of_values total not_negative meets =
      let found = parts in
      let y = numbers (length p.pairs) program.values x found.values found.lift found.slacks in (
        y.0,
        y.1.at_pairs,
        record {
          not_negative = numbers_not_negative found y.0 y.1 not_negative;
          meets = λ row low. (elim (cases_lt row (length program.base.rows)) [
            | inl front ↦ base_product found y.0 y.1 row front ∙ meets row front
            | inr back ↦
                let rest = rest_of (length program.base.rows) row back in
                let in_it : rest.0 < program.incentives = omega (arith, low, rest.1, rows_of_lp) in
                let later : 0 < row = omega (arith, rest.1, program.correlation.count) in
                ap (λ (n : ℕ). sum_to lp.cols (λ k. coefficient lp n k *ℤ y.0 k)) rest.1
                ∙ more_product found y.0 y.1 rest.0 in_it
                ∙ taken_up (found.slacks rest.0) total (right_of lp row) (program.right_sides.zeros row later)
          ]);
        },
      )

  right_alike : IsProgram program.base → (row : ℕ) → right_of program.base row ≡ right_of lp row
  right_alike of_base zero = of_base.one ∙ sym program.right_sides.one
  right_alike of_base (suc row) = of_base.zeros (suc row) (omega arith) ∙ sym (program.right_sides.zeros (suc row) (omega arith))

  -- a solution of the correlation rows extends to one of the whole program
  pub base_solution_extends : IsProgram program.base → (total : ℤ) → IsSolution program.base total x
      → (y : ℕ → ℤ) × ((k : ℕ) → k < length p.pairs → y k ≡ x k) × IsSolution lp total y
  base_solution_extends of_base total s =
      solution_of_values total (λ k low. s.not_negative k (omega (arith, low, program.columns)))
      (λ row low. s.meets row low ∙ ap (λ (r : ℤ). total *ℤ r) (right_alike of_base row))
