-- The number of a belt's fault: the first side that doesn't begin the belt or follow the one before it as it has to.
use Rattle.std.specs.Prelude.{◌≡◌, ◌⊎◌, ℕ, zero, suc, ◌<◌, List, length, slice_get, Some}
use Rattle.plane_hull.specs.Belt.{Begins, IsBelt, MayFollow, PointsDiffer}
use Rattle.plane_hull.specs.declared.sides.Point.{Point}
use Rattle.plane_hull.specs.declared.sides.SideRow.{SideRow}

-- the first side begins the belt, any other one follows the side before it, at another point where the corner changes
abbrev pub IsInTurn : List Point → List SideRow → ℕ → Type 0
IsInTurn points sides zero = Begins sides
IsInTurn points sides (suc k) =
    (from to : SideRow) → slice_get sides k ≡ Some from → slice_get sides (suc k) ≡ Some to
    → MayFollow (length points) k from to × PointsDiffer points from to

-- the sides are no belt, those before the number are in turn, and the number is that of one that isn't, or of all sides
pub record IsFaultOf (points : List Point) (sides : List SideRow) (number : ℕ) : Type 0 where
  pub no_belt : IsBelt points sides → ⊥
  pub earlier : (k : ℕ) → k < number → IsInTurn points sides k
  pub here : (number ≡ length sides) ⊎ ((number < length sides) × (IsInTurn points sides number → ⊥))
