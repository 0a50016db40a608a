-- The sum of at most 2048 numbers below 2^51 is below 2^62, and all other entries of a start are a program's own, 1 or 0.
use Rattle.std.proofs.Common.{◌≡◌, ◌⊎◌, ℕ, ◌+◌, ◌-◌, ◌^◌, ◌≤◌, Bool, true, false, nat_lt, nat_eq, length, ℤ, pos, neg_ℤ, cond, unsigned_abs, inl, inr, arith}
use Rattle.std.proofs.lemmas.Int.{ints}
use Rattle.exact_algebra.specs.Sums.{sum_to}
use Rattle.exact_algebra.proofs.SumOrder.{sum_to_bounded}
use Rattle.corr_game.specs.declared.sides.Side.TheVariants.{One, Two}
use Rattle.corr_num.specs.Narrow.{Narrow}
use Rattle.lp_form.specs.Program.{LpView, coefficient, right_of, payoff_of}
use Rattle.lp_form.specs.Small.{IsSmall}
use Rattle.int_tableau.specs.Start.{StartsNarrow, behind_program, column_sum, payoff_entry, program_entry}

either_narrow : (b : Bool) (x y : ℤ) → Narrow x → Narrow y → Narrow (cond b x y)
either_narrow true x y h k = h
either_narrow false x y h k = k

neg_narrow : (x : ℤ) → Narrow x → Narrow (neg_ℤ x)
neg_narrow x h = omega (arith, ints, h)

one_narrow : Narrow (pos 1)
one_narrow = omega arith

none_narrow : Narrow (pos 0)
none_narrow = omega arith

right_small : (right : ℤ) → (right ≡ pos 0) ⊎ (right ≡ pos 1) → unsigned_abs right ≤ 1
right_small right (inl e) = rw e (omega arith)
right_small right (inr e) = rw e (omega arith)

module _ (lp : LpView) (small : IsSmall lp) (few : length lp.rows ≤ 2048) where
  right_narrow : (row : ℕ) → Narrow (right_of lp row)
  right_narrow row = omega (arith, right_small (right_of lp row) (small.rights row))

  coefficients_narrow : (col : ℕ) → Narrow (sum_to (length lp.rows) (λ r. coefficient lp r col))
  coefficients_narrow col =
      let most = sum_to_bounded (length lp.rows) (2 ^ 51 - 1) (λ r. coefficient lp r col) (λ r h. omega (arith, small.coefficients r col)) in
      omega (arith, most, few)

  rights_narrow : Narrow (sum_to (length lp.rows) (λ r. right_of lp r))
  rights_narrow =
      let most = sum_to_bounded (length lp.rows) 1 (λ r. right_of lp r) (λ r h. right_small (right_of lp r) (small.rights r)) in
      omega (arith, most, few)

  program_narrow : (row col : ℕ) → Narrow (program_entry lp row col)
  program_narrow row col =
      let unit = either_narrow (nat_eq col (lp.cols + row)) (pos 1) (pos 0) one_narrow none_narrow in
      let behind = either_narrow (nat_eq col (lp.cols + length lp.rows)) (right_of lp row) _ (right_narrow row) unit in
      either_narrow (nat_lt col lp.cols) (coefficient lp row col) (behind_program lp row col) (omega (arith, small.coefficients row col)) behind

  payoff_narrow : (amount : ℤ) (col : ℕ) → unsigned_abs amount ≤ 2 ^ 51 - 1 → Narrow (cond (nat_lt col lp.cols) (neg_ℤ amount) (pos 0))
  payoff_narrow amount col low =
      either_narrow (nat_lt col lp.cols) (neg_ℤ amount) (pos 0) (neg_narrow amount (omega (arith, low))) none_narrow

  column_narrow : (col : ℕ) → Narrow (column_sum lp col)
  column_narrow col =
      let behind = either_narrow (nat_eq col (lp.cols + length lp.rows)) (sum_to (length lp.rows) (λ r. right_of lp r)) (pos 0) rights_narrow none_narrow in
      either_narrow (nat_lt col lp.cols) (sum_to (length lp.rows) (λ r. coefficient lp r col)) _ (coefficients_narrow col) behind

  pub small_starts_narrow : StartsNarrow lp
  small_starts_narrow row in_rows col in_cols =
      let first = payoff_narrow (payoff_of One lp col) col (omega (arith, small.payoffs One col)) in
      let second = payoff_narrow (payoff_of Two lp col) col (omega (arith, small.payoffs Two col)) in
      let phase = neg_narrow (column_sum lp col) (column_narrow col) in
      let behind_second = either_narrow (nat_eq row (length lp.rows + 1)) (payoff_entry Two lp col) (neg_ℤ (column_sum lp col)) second phase in
      let behind_first = either_narrow (nat_eq row (length lp.rows)) (payoff_entry One lp col) _ first behind_second in
      either_narrow (nat_lt row (length lp.rows)) (program_entry lp row col) _ (program_narrow row col) behind_first
