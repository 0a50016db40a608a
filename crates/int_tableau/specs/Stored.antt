-- A tableau as lists of its rows, and the content that they stand for.
use Rattle.std.specs.Prelude.{◌≡◌, ℕ, ◌+◌, ◌^◌, ◌<◌, ◌≤◌, List, [], length, All, Bool, false, ℤ, pos, ◌<ℤ◌, slice_index, slice_index_or}
use Rattle.corr_num.specs.Narrow.{Narrow}
use Rattle.int_tableau.specs.Shape.{Content}
use Rattle.int_tableau.specs.Elimination.{IsRow}
use Rattle.int_tableau.specs.Reached.{IsReached}

-- the number of columns, the rows, the basis, the denominator and whether the entries are lost
pub record Stored : Type 0 where
  pub cols : ℕ
  pub rows : List (List ℤ)
  pub basis : List ℕ
  pub denom : ℤ
  pub spent : Bool

-- the content
abbrev pub content_of : Stored → Content
content_of s = record {
  rows = length s.rows;
  cols = s.cols;
  entry = λ row col. slice_index_or (slice_index_or s.rows row []) col (pos 0);
  basic = λ row. slice_index s.basis row;
  denom = s.denom;
  spent = s.spent;
}

-- the rules of what is stored
pub record IsStored (s : Stored) : Type 0 where
  pub three_more : length s.rows ≡ length s.basis + 3
  pub artificial : length s.basis < s.cols
  pub few_rows : length s.basis ≤ 2 ^ 24
  pub few_columns : s.cols ≤ 2 ^ 25 + 1
  pub basis : All (λ col. col + 1 < s.cols) s.basis
  pub positive : s.spent ≡ false → pos 0 <ℤ s.denom
  pub narrow_denom : s.spent ≡ false → Narrow s.denom
  pub each_row : s.spent ≡ false → All (IsRow s.cols) s.rows
  pub reached : s.spent ≡ false → IsReached (content_of s)
