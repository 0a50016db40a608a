-- A polygon's corners, each with a solution of the program that pays it, and its sides, each with multipliers that certify its
-- direction and whose point is its corner (Dantzig 1963), with the ranges that a tableau's narrow entries give them.
use Rattle.std.specs.Prelude.{◌≡◌, ℕ, ◌+◌, ◌<◌, ◌≤◌, List, length, All, Some, slice_get, ℤ, pos, ◌*ℤ◌, ◌≤ℤ◌, ◌<ℤ◌, unsigned_abs, slice_index_or}
use Rattle.std.specs.Int.{IsGcd}
use Rattle.corr_game.specs.declared.sides.Side.TheVariants.{One, Two}
use Rattle.corr_num.specs.Narrow.{Narrow}
use Rattle.lp_form.specs.Program.{LpView, IsProgram}
use Rattle.lp_form.specs.Certificates.{Certify, left_over}
use Rattle.lp_form.specs.Solutions.{IsSolution, paid}
use Rattle.int_tableau.specs.Content.{Content}
use Rattle.bland_simplex.specs.Improving.{reduced}
use Rattle.plane_hull.specs.declared.directions.Dir.{Dir}
use Rattle.plane_hull.specs.declared.sides.SideRow.{SideRow}
use Rattle.polygon_sweep.specs.declared.corners.SweptCorner.{SweptCorner}
use Rattle.polygon_sweep.specs.declared.corners.Swept.{Swept}

-- no number but 1 divides both parts of a direction
abbrev pub IsCoprime : Dir → Type 0
IsCoprime dir = IsGcd (unsigned_abs dir.a) (unsigned_abs dir.b) 1

-- the number of each column
abbrev pub number_in : List ℤ → ℕ → ℤ
number_in values col = slice_index_or values col (pos 0)

-- a corner of a program: narrow numerators over a positive denominator, one value a column; the values are a solution, and what
-- it pays is the corner
pub record IsCornerOf (lp : LpView) (corner : SweptCorner) : Type 0 where
  pub positive : pos 0 <ℤ corner.den
  pub den : Narrow corner.den
  pub one : Narrow corner.one
  pub two : Narrow corner.two
  pub count : length corner.values ≡ lp.cols
  pub values : All Narrow corner.values
  pub solution : IsSolution lp corner.den (number_in corner.values)
  pub pays_one : corner.one ≡ paid lp One (number_in corner.values)
  pub pays_two : corner.two ≡ paid lp Two (number_in corner.values)

-- no column of the program costs less than nothing along the direction: no solution pays more along it than the tableau's own
abbrev pub IsBounding : Content → ℕ → ℕ → Dir → Type 0
IsBounding t rows cols dir = (col : ℕ) → col < cols → pos 0 ≤ℤ reduced t rows dir col

-- what a tableau's own solution pays is what a corner says, over both denominators
pub record Reaches (t : Content) (rows right : ℕ) (corner : SweptCorner) : Type 0 where
  pub one : t.entry rows right *ℤ corner.den ≡ corner.one *ℤ t.denom
  pub two : t.entry (rows + 1) right *ℤ corner.den ≡ corner.two *ℤ t.denom

-- the tableau's own solution pays what the corner with this number says
pub record IsAt (lp : LpView) (t : Content) (corners : List SweptCorner) (number : ℕ) : Type 0 where
  pub corner : SweptCorner
  pub at : slice_get corners number ≡ Some corner
  pub reached : Reaches t (length lp.rows) (lp.cols + length lp.rows) corner

-- each corner of the first list stands at its number in the second
abbrev pub IsGrown : List SweptCorner → List SweptCorner → Type 0
IsGrown corners more = (number : ℕ) (corner : SweptCorner) → slice_get corners number ≡ Some corner → slice_get more number ≡ Some corner

-- what a side's multipliers leave of a column is narrow
pub record LeavesNarrow (lp : LpView) (side : SideRow) (col : ℕ) : Type 0 where
  pub one : Narrow (left_over lp One side.den side.first col)
  pub two : Narrow (left_over lp Two side.den side.second col)

-- the first n entries of a row in the artificial columns
pub record AreEntries (t : Content) (row cols n : ℕ) (list : List ℤ) : Type 0 where
  pub count : length list ≡ n
  pub narrow : All Narrow list
  pub entries : (k : ℕ) → k < n → slice_index_or list k (pos 0) ≡ t.entry row (cols + k)

-- a side of a program's polygon, wherever it stands: narrow multipliers over a positive denominator that certify its direction
pub record IsSideOf (lp : LpView) (side : SideRow) : Type 0 where
  pub coprime : IsCoprime side.dir
  pub den : Narrow side.den
  pub first : All Narrow side.first
  pub second : All Narrow side.second
  pub certified : Certify lp side.dir.a side.dir.b side.den side.first side.second
  pub narrow : (col : ℕ) → col < lp.cols → LeavesNarrow lp side col

-- the first multipliers are what a corner pays, over both denominators
pub record IsPointOf (side : SideRow) (corner : SweptCorner) : Type 0 where
  pub one : number_in side.first 0 *ℤ corner.den ≡ corner.one *ℤ side.den
  pub two : number_in side.second 0 *ℤ corner.den ≡ corner.two *ℤ side.den

-- a side at one of the corners; where the right sides are 1 in the first row and 0 in the others, that corner is its point
pub record IsSideAmong (lp : LpView) (corners : List SweptCorner) (side : SideRow) : Type 0 where
  pub certified : IsSideOf lp side
  pub corner : SweptCorner
  pub at : slice_get corners side.corner ≡ Some corner
  pub point : IsProgram lp → IsPointOf side corner

-- at least one corner and one side
pub record IsSwept (lp : LpView) (swept : Swept) : Type 0 where
  pub a_corner : 1 ≤ length swept.corners
  pub a_side : 1 ≤ length swept.sides
  pub corners : All (IsCornerOf lp) swept.corners
  pub sides : All (IsSideAmong lp swept.corners) swept.sides
