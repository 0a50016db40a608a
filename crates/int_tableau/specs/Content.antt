-- The rules of an integer tableau (Edmonds 1967, Bareiss 1968), and the names of its rows.
pub use Rattle.int_tableau.specs.Shape.{Content, IsProgramRow, IsColumn, right_side}
use Rattle.std.specs.Prelude.{◌≡◌, ℕ, ◌+◌, ◌^◌, ◌<◌, ◌≤◌, false, pos, ◌<ℤ◌}
use Rattle.lp_form.specs.declared.places.RowName.{RowName}
use Rattle.lp_form.specs.declared.places.RowName.TheVariants.{Basic, First, Second, Phase}
use Rattle.corr_num.specs.Narrow.{Narrow}
use Rattle.int_tableau.specs.Reached.{IsReached}

-- the rules of a tableau, of whose columns one per program row is artificial
pub record IsTableau (t : Content) : Type 0 where
  pub three_more : 3 ≤ t.rows
  pub artificial : t.rows < t.cols + 3
  pub few_rows : t.rows ≤ 2 ^ 24 + 3
  pub few_columns : t.cols ≤ 2 ^ 25 + 1
  pub basis : (row : ℕ) → IsProgramRow t row → IsColumn t (t.basic row)
  pub positive : t.spent ≡ false → pos 0 <ℤ t.denom
  pub narrow_denom : t.spent ≡ false → Narrow t.denom
  pub narrow : t.spent ≡ false → (row col : ℕ) → row < t.rows → col < t.cols → Narrow (t.entry row col)
  pub reached : t.spent ≡ false → IsReached t

-- a row's name: a program row is named by its basic column
abbrev pub IsNamed : Content → ℕ → RowName → Type 0
IsNamed t row (Basic col) = IsProgramRow t row × (t.basic row ≡ col)
IsNamed t row First = row + 3 ≡ t.rows
IsNamed t row Second = row + 2 ≡ t.rows
IsNamed t row Phase = row + 1 ≡ t.rows
