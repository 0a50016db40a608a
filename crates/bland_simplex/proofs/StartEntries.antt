-- The entries of a program's starting tableau, place by place, and what Phase's costs and the rows' entries come to in a column:
-- 0 for the program's columns and the right side, 1 for an artificial one.
use Rattle.std.proofs.Common.{◌≡◌, ◌≢◌, ℕ, ◌+◌, ◌<◌, ◌≤◌, ℤ, pos, ◌+ℤ◌, neg_ℤ, true, false, nat_lt, nat_eq, length, refl, ◌∙◌, arith, lt-ltb, le-ltb, eq-eqb, ne_eqb}
use Rattle.std.proofs.lemmas.Int.{ints}
use Rattle.exact_algebra.proofs.Sums.{sum_to-same, sum_to-one}
use Rattle.exact_algebra.specs.Sums.{sum_to}
use Rattle.corr_game.specs.declared.sides.Side.TheVariants.{One, Two}
use Rattle.lp_form.specs.Program.{LpView, coefficient, right_of, payoff_of}
use Rattle.int_tableau.specs.Start.{start_entry}

module _ (lp : LpView) where
  pub entry_program : (row col : ℕ) → row < length lp.rows → col < lp.cols → start_entry lp row col ≡ coefficient lp row col
  entry_program row col h l =
      let in_rows : nat_lt row (length lp.rows) ≡ true = lt-ltb row (length lp.rows) h in
      let in_columns : nat_lt col lp.cols ≡ true = lt-ltb col lp.cols l in
      rw (in_rows, in_columns)

  pub entry_right : (row : ℕ) → row < length lp.rows → start_entry lp row (lp.cols + length lp.rows) ≡ right_of lp row
  entry_right row h =
      let in_rows : nat_lt row (length lp.rows) ≡ true = lt-ltb row (length lp.rows) h in
      let behind : nat_lt (lp.cols + length lp.rows) lp.cols ≡ false = le-ltb (lp.cols + length lp.rows) lp.cols (omega arith) in
      let last : nat_eq (lp.cols + length lp.rows) (lp.cols + length lp.rows) ≡ true = eq-eqb (lp.cols + length lp.rows)
      (lp.cols + length lp.rows) refl in
      rw (in_rows, behind, last)

  pub entry_own : (row : ℕ) → row < length lp.rows → start_entry lp row (lp.cols + row) ≡ pos 1
  entry_own row h =
      let in_rows : nat_lt row (length lp.rows) ≡ true = lt-ltb row (length lp.rows) h in
      let behind : nat_lt (lp.cols + row) lp.cols ≡ false = le-ltb (lp.cols + row) lp.cols (omega arith) in
      let not_last : nat_eq (lp.cols + row) (lp.cols + length lp.rows) ≡ false = ne_eqb (lp.cols + row) (lp.cols + length lp.rows)
      (omega arith) in
      let own : nat_eq (lp.cols + row) (lp.cols + row) ≡ true = eq-eqb (lp.cols + row) (lp.cols + row) refl in
      rw (in_rows, behind, not_last, own)

  pub entry_apart : (row k : ℕ) → row < length lp.rows → k < length lp.rows → row ≢ k → start_entry lp row (lp.cols + k) ≡ pos 0
  entry_apart row k h l apart =
      let in_rows : nat_lt row (length lp.rows) ≡ true = lt-ltb row (length lp.rows) h in
      let behind : nat_lt (lp.cols + k) lp.cols ≡ false = le-ltb (lp.cols + k) lp.cols (omega arith) in
      let not_last : nat_eq (lp.cols + k) (lp.cols + length lp.rows) ≡ false = ne_eqb (lp.cols + k) (lp.cols + length lp.rows)
      (omega arith) in
      let other : nat_eq (lp.cols + k) (lp.cols + row) ≡ false = ne_eqb (lp.cols + k) (lp.cols + row) (λ e. apart (omega arith)) in
      rw (in_rows, behind, not_last, other)

  -- The rows behind the program's, told by the tests of their place.
  not_program : (i : ℕ) → nat_lt (length lp.rows + i) (length lp.rows) ≡ false
  not_program i = le-ltb (length lp.rows + i) (length lp.rows) (omega arith)

  pub first_program : (col : ℕ) → col < lp.cols → start_entry lp (length lp.rows) col ≡ neg_ℤ (payoff_of One lp col)
  first_program col l =
      let behind : nat_lt (length lp.rows) (length lp.rows) ≡ false = le-ltb (length lp.rows) (length lp.rows) (omega arith) in
      let first : nat_eq (length lp.rows) (length lp.rows) ≡ true = eq-eqb (length lp.rows) (length lp.rows) refl in
      let in_columns : nat_lt col lp.cols ≡ true = lt-ltb col lp.cols l in
      rw (behind, first, in_columns)

  -- the payoffs are free behind the program's columns
  pub first_behind : (col : ℕ) → lp.cols ≤ col → start_entry lp (length lp.rows) col ≡ pos 0
  first_behind col h =
      let behind : nat_lt (length lp.rows) (length lp.rows) ≡ false = le-ltb (length lp.rows) (length lp.rows) (omega arith) in
      let first : nat_eq (length lp.rows) (length lp.rows) ≡ true = eq-eqb (length lp.rows) (length lp.rows) refl in
      let past : nat_lt col lp.cols ≡ false = le-ltb col lp.cols h in
      rw (behind, first, past)

  pub first_right : start_entry lp (length lp.rows) (lp.cols + length lp.rows) ≡ pos 0
  first_right = first_behind (lp.cols + length lp.rows) (omega arith)

  pub second_program : (col : ℕ) → col < lp.cols → start_entry lp (length lp.rows + 1) col ≡ neg_ℤ (payoff_of Two lp col)
  second_program col l =
      let not_first : nat_eq (length lp.rows + 1) (length lp.rows) ≡ false = ne_eqb (length lp.rows + 1) (length lp.rows) (omega arith) in
      let second : nat_eq (length lp.rows + 1) (length lp.rows + 1) ≡ true = eq-eqb (length lp.rows + 1) (length lp.rows + 1) refl in
      let in_columns : nat_lt col lp.cols ≡ true = lt-ltb col lp.cols l in
      rw (not_program 1, not_first, second, in_columns)

  pub second_behind : (col : ℕ) → lp.cols ≤ col → start_entry lp (length lp.rows + 1) col ≡ pos 0
  second_behind col h =
      let not_first : nat_eq (length lp.rows + 1) (length lp.rows) ≡ false = ne_eqb (length lp.rows + 1) (length lp.rows) (omega arith) in
      let second : nat_eq (length lp.rows + 1) (length lp.rows + 1) ≡ true = eq-eqb (length lp.rows + 1) (length lp.rows + 1) refl in
      let past : nat_lt col lp.cols ≡ false = le-ltb col lp.cols h in
      rw (not_program 1, not_first, second, past)

  pub second_right : start_entry lp (length lp.rows + 1) (lp.cols + length lp.rows) ≡ pos 0
  second_right = second_behind (lp.cols + length lp.rows) (omega arith)

  not_first_too : nat_eq (length lp.rows + 2) (length lp.rows) ≡ false
  not_first_too = ne_eqb (length lp.rows + 2) (length lp.rows) (omega arith)

  not_second : nat_eq (length lp.rows + 2) (length lp.rows + 1) ≡ false
  not_second = ne_eqb (length lp.rows + 2) (length lp.rows + 1) (omega arith)

  phase_program : (col : ℕ) → col < lp.cols →
      start_entry lp (length lp.rows + 2) col ≡ neg_ℤ (sum_to (length lp.rows) (λ r. coefficient lp r col))
  phase_program col l =
      let in_columns : nat_lt col lp.cols ≡ true = lt-ltb col lp.cols l in
      rw (not_program 2, not_first_too, not_second, in_columns)

  phase_right : start_entry lp (length lp.rows + 2) (lp.cols + length lp.rows) ≡ neg_ℤ (sum_to (length lp.rows) (λ r. right_of lp r))
  phase_right =
      let past : nat_lt (lp.cols + length lp.rows) lp.cols ≡ false = le-ltb (lp.cols + length lp.rows) lp.cols (omega arith) in
      let last : nat_eq (lp.cols + length lp.rows) (lp.cols + length lp.rows) ≡ true = eq-eqb (lp.cols + length lp.rows)
      (lp.cols + length lp.rows) refl in
      rw (not_program 2, not_first_too, not_second, past, last)

  pub phase_artificial : (k : ℕ) → k < length lp.rows → start_entry lp (length lp.rows + 2) (lp.cols + k) ≡ pos 0
  phase_artificial k h =
      let past : nat_lt (lp.cols + k) lp.cols ≡ false = le-ltb (lp.cols + k) lp.cols (omega arith) in
      let not_last : nat_eq (lp.cols + k) (lp.cols + length lp.rows) ≡ false = ne_eqb (lp.cols + k) (lp.cols + length lp.rows)
      (omega arith) in
      rw (not_program 2, not_first_too, not_second, past, not_last)

  -- What a column costs in Phase and the sum of its entries come to.
  abbrev pub phase_weight : ℕ → ℤ
  phase_weight col = start_entry lp (length lp.rows + 2) col +ℤ sum_to (length lp.rows) (λ c. start_entry lp c col)

  pub weight_program : (col : ℕ) → col < lp.cols → phase_weight col ≡ pos 0
  weight_program col l =
      let cost = phase_program col l in
      let entries = sum_to-same (length lp.rows) (λ c. start_entry lp c col) (λ c. coefficient lp c col) (λ c h. entry_program c col h l) in
      cancels (start_entry lp (length lp.rows + 2) col) (sum_to (length lp.rows) (λ c. start_entry lp c col))
      (sum_to (length lp.rows) (λ c. coefficient lp c col)) cost entries
    where
      cancels : (a b s : ℤ) → a ≡ neg_ℤ s → b ≡ s → a +ℤ b ≡ pos 0
      cancels a b s one two = omega (arith, ints)

  pub weight_right : phase_weight (lp.cols + length lp.rows) ≡ pos 0
  weight_right =
      let entries = sum_to-same (length lp.rows) (λ c. start_entry lp c (lp.cols + length lp.rows)) (λ c. right_of lp c)
      (λ c h. entry_right c h) in
      cancels (start_entry lp (length lp.rows + 2) (lp.cols + length lp.rows))
      (sum_to (length lp.rows) (λ c. start_entry lp c (lp.cols + length lp.rows))) (sum_to (length lp.rows) (λ c. right_of lp c))
      phase_right entries
    where
      cancels : (a b s : ℤ) → a ≡ neg_ℤ s → b ≡ s → a +ℤ b ≡ pos 0
      cancels a b s one two = omega (arith, ints)

  pub weight_artificial : (k : ℕ) → k < length lp.rows → phase_weight (lp.cols + k) ≡ pos 1
  weight_artificial k h =
      let entries = sum_to-one (length lp.rows) k (λ c. start_entry lp c (lp.cols + k)) h (λ c l apart. entry_apart c k l h apart)
      ∙ entry_own k h in
      adds (start_entry lp (length lp.rows + 2) (lp.cols + k)) (sum_to (length lp.rows) (λ c. start_entry lp c (lp.cols + k)))
      (phase_artificial k h) entries
    where
      adds : (a b : ℤ) → a ≡ pos 0 → b ≡ pos 1 → a +ℤ b ≡ pos 1
      adds a b one two = omega (arith, ints)
