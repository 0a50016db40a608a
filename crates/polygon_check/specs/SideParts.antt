-- The conditions on a side of a polygon, in the parts in which they are tested (the duality of linear
-- programs, Dantzig 1963).
use Rattle.std.specs.Prelude.{◌≡◌, ℕ, ◌<◌, List, length, All, Some, slice_get, ℤ, pos, ◌+ℤ◌, ◌*ℤ◌, ◌≤ℤ◌, ◌<ℤ◌}
use Rattle.corr_game.specs.declared.sides.Side.TheVariants.{One, Two}
use Rattle.corr_num.specs.Narrow.{Narrow}
use Rattle.lp_form.specs.Certificates.{left_over}
use Rattle.lp_form.specs.Program.{LpView}
use Rattle.plane_hull.specs.declared.directions.Dir.{Dir}
use Rattle.plane_hull.specs.declared.sides.SideRow.{SideRow}
use Rattle.polygon_sweep.specs.Swept.{IsCoprime, IsPointOf}
use Rattle.polygon_sweep.specs.declared.corners.SweptCorner.{SweptCorner}

-- a coprime direction, and a positive narrow denominator
pub record HasScale (side : SideRow) : Type 0 where
  pub coprime : IsCoprime side.dir
  pub positive : pos 0 <ℤ side.den
  pub den : Narrow side.den

-- a narrow number for each row, of which there are this many
pub record AreMultipliers (rows : ℕ) (list : List ℤ) : Type 0 where
  pub each : length list ≡ rows
  pub narrow : All Narrow list

-- a side's numbers are in their ranges
pub record IsSideInRange (rows : ℕ) (side : SideRow) : Type 0 where
  pub scale : HasScale side
  pub first : AreMultipliers rows side.first
  pub second : AreMultipliers rows side.second

-- a side's corner is there and is its point
pub record IsAtCorner (corners : List SweptCorner) (side : SideRow) : Type 0 where
  pub corner : SweptCorner
  pub at : slice_get corners side.corner ≡ Some corner
  pub point : IsPointOf side corner

-- two narrow numbers that are 0 or more when they are weighed with the direction
pub record IsWeighed (dir : Dir) (x y : ℤ) : Type 0 where
  pub one : Narrow x
  pub two : Narrow y
  pub not_below : pos 0 ≤ℤ (dir.a *ℤ x +ℤ dir.b *ℤ y)

-- what a side's multipliers leave of a column is so
abbrev pub PassesColumn : LpView → SideRow → ℕ → Type 0
PassesColumn lp side col =
    IsWeighed side.dir (left_over lp One side.den side.first col) (left_over lp Two side.den side.second col)

abbrev pub PassesColumns : LpView → SideRow → Type 0
PassesColumns lp side = (col : ℕ) → col < lp.cols → PassesColumn lp side col
