-- A linear program with two payoff rows: to find numbers of 0 or more, one a column, whose product with each row is
-- that row's right side.
use Rattle.std.specs.Prelude.{◌≡◌, ℕ, ◌^◌, ◌<◌, ◌≤◌, List, [], ◌++◌, length, All, ℤ, pos, ◌≤ℤ◌, slice_index_or, replicate}
use Rattle.corr_game.specs.declared.sides.Side.{Side}
use Rattle.corr_game.specs.declared.sides.Side.TheVariants.{One, Two}
use Rattle.lp_form.specs.declared.entries.Entry.{Entry}
use Rattle.lp_form.specs.Row.{value_at, IsRow}

-- the number of columns, the stored entries of each row, the right sides and the payoff rows
pub record LpView : Type 0 where
  pub cols : ℕ
  pub rows : List (List Entry)
  pub rights : List ℤ
  pub first : List Entry
  pub second : List Entry

-- the stored entries of a row
abbrev pub entries_of : LpView → ℕ → List Entry
entries_of lp row = slice_index_or lp.rows row []

-- the coefficient at a row and a column
abbrev pub coefficient : LpView → ℕ → ℕ → ℤ
coefficient lp row col = value_at (entries_of lp row) col

-- the right side of a row
abbrev pub right_of : LpView → ℕ → ℤ
right_of lp row = slice_index_or lp.rights row (pos 0)

-- the payoff row of a player
abbrev pub payoff_row : Side → LpView → List Entry
payoff_row One lp = lp.first
payoff_row Two lp = lp.second

-- the payoff coefficient of a player in a column
abbrev pub payoff_of : Side → LpView → ℕ → ℤ
payoff_of side lp col = value_at (payoff_row side lp) col

-- the rules of a program
pub record IsLp (lp : LpView) : Type 0 where
  pub few_columns : lp.cols ≤ 2 ^ 24
  pub few_rows : length lp.rows ≤ 2 ^ 24
  pub a_right_each : length lp.rights ≡ length lp.rows
  pub not_negative : All (λ right. pos 0 ≤ℤ right) lp.rights
  pub each_row : All (IsRow lp.cols) lp.rows
  pub first_row : IsRow lp.cols lp.first
  pub second_row : IsRow lp.cols lp.second

-- a program whose right sides are 1 in the first row and 0 in the others
pub record IsProgram (lp : LpView) : Type 0 where
  pub a_row : 0 < length lp.rows
  pub one : right_of lp 0 ≡ pos 1
  pub zeros : (row : ℕ) → 0 < row → right_of lp row ≡ pos 0

-- the rows of one program and then those of another, over the columns of that and with the payoff rows of this
abbrev pub joined : LpView → LpView → LpView
joined base more = record {
  cols = more.cols;
  rows = base.rows ++ more.rows;
  rights = base.rights ++ more.rights;
  first = base.first;
  second = base.second;
}

-- a program with another payoff row of this player
abbrev pub with_payoff_row : Side → LpView → List Entry → LpView
with_payoff_row One lp entries = record lp { first = entries }
with_payoff_row Two lp entries = record lp { second = entries }

-- the program of this size with 0 everywhere
abbrev pub blank : ℕ → ℕ → LpView
blank rows cols = record {
  cols = cols;
  rows = replicate rows [];
  rights = replicate rows (pos 0);
  first = [];
  second = [];
}
