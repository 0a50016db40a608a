-- The tableau with which the first phase starts: the program with one artificial column for each row (Dantzig 1963).
use Rattle.std.specs.Prelude.{◌≡◌, ℕ, ◌+◌, ◌<◌, false, ℤ, pos, neg_ℤ, cond, nat_lt, nat_eq, length}
use Rattle.corr_game.specs.declared.sides.Side.{Side}
use Rattle.corr_game.specs.declared.sides.Side.TheVariants.{One, Two}
use Rattle.exact_algebra.specs.Sums.{sum_to}
use Rattle.lp_form.specs.Program.{LpView, coefficient, right_of, payoff_of}
use Rattle.corr_num.specs.Narrow.{Narrow}
use Rattle.int_tableau.specs.Content.{Content}

-- the columns behind the program's: the artificial column of each row, and the right side
abbrev pub behind_program : LpView → ℕ → ℕ → ℤ
behind_program lp row col =
    cond (nat_eq col (lp.cols + length lp.rows)) (right_of lp row) (cond (nat_eq col (lp.cols + row)) (pos 1) (pos 0))

-- the sum of the program's rows in one column, or of the right sides
abbrev pub column_sum : LpView → ℕ → ℤ
column_sum lp col =
    cond (nat_lt col lp.cols) (sum_to (length lp.rows) (λ r. coefficient lp r col))
    (cond (nat_eq col (lp.cols + length lp.rows)) (sum_to (length lp.rows) (λ r. right_of lp r)) (pos 0))

-- the entry of a program row
abbrev pub program_entry : LpView → ℕ → ℕ → ℤ
program_entry lp row col = cond (nat_lt col lp.cols) (coefficient lp row col) (behind_program lp row col)

-- the entry of a player's payoff row
abbrev pub payoff_entry : Side → LpView → ℕ → ℤ
payoff_entry side lp col = cond (nat_lt col lp.cols) (neg_ℤ (payoff_of side lp col)) (pos 0)

-- the entry of the starting tableau
abbrev pub start_entry : LpView → ℕ → ℕ → ℤ
start_entry lp row col =
    cond (nat_lt row (length lp.rows)) (program_entry lp row col)
    (cond (nat_eq row (length lp.rows)) (payoff_entry One lp col)
    (cond (nat_eq row (length lp.rows + 1)) (payoff_entry Two lp col) (neg_ℤ (column_sum lp col))))

-- each entry of a row of the starting tableau is narrow
abbrev pub IsNarrowRow : LpView → ℕ → Type 0
IsNarrowRow lp row = (col : ℕ) → col < lp.cols + length lp.rows + 1 → Narrow (start_entry lp row col)

-- each entry of the starting tableau is narrow
abbrev pub StartsNarrow : LpView → Type 0
StartsNarrow lp = (row : ℕ) → row < length lp.rows + 3 → IsNarrowRow lp row

-- the starting tableau of a program
pub record IsStart (lp : LpView) (t : Content) : Type 0 where
  pub rows : t.rows ≡ length lp.rows + 3
  pub cols : t.cols ≡ lp.cols + length lp.rows + 1
  pub fresh : t.spent ≡ false
  pub denom : t.denom ≡ pos 1
  pub basis : (row : ℕ) → row < length lp.rows → t.basic row ≡ lp.cols + row
  pub entries : (row col : ℕ) → row < t.rows → col < t.cols → t.entry row col ≡ start_entry lp row col
