-- The rows and the basis of the starting tableau as lists.
use Rattle.std.specs.Prelude.{◌≡◌, ℕ, ◌+◌, ◌<◌, List, [], length, ℤ, slice_index, slice_index_or}
use Rattle.lp_form.specs.Program.{LpView}
use Rattle.int_tableau.specs.Start.{start_entry}
use Rattle.int_tableau.specs.Elimination.{at}

-- a row of the starting tableau
pub record IsStartRow (lp : LpView) (row : ℕ) (entries : List ℤ) : Type 0 where
  pub width : length entries ≡ lp.cols + length lp.rows + 1
  pub entries_are : (col : ℕ) → col < length entries → at entries col ≡ start_entry lp row col

-- all rows of the starting tableau
pub record AreStartRows (lp : LpView) (rows : List (List ℤ)) : Type 0 where
  pub all : length rows ≡ length lp.rows + 3
  pub each : (row : ℕ) → row < length rows → IsStartRow lp row (slice_index_or rows row [])

-- each row's basic column is its artificial one
pub record IsStartBasis (lp : LpView) (basis : List ℕ) : Type 0 where
  pub one_each : length basis ≡ length lp.rows
  pub artificial : (row : ℕ) → row < length basis → slice_index basis row ≡ lp.cols + row
