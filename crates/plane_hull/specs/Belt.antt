-- The belt of sides round a polygon: directions in the order of their angles, each at the corner furthest in it.
use Rattle.std.specs.Prelude.{◌≡◌, ◌≢◌, ◌⊎◌, ℕ, suc, ◌+◌, ◌<◌, ◌≤◌, List, [], ◌∷◌}
use Rattle.std.specs.Prelude.{length, slice_get, Some, ℤ, pos, negsuc, ◌==◌, if◌then◌else◌}
use Rattle.std.specs.declared.cmp.Ordering.TheVariants.{Less}
use Rattle.plane_hull.specs.Angle.{angle_cmp}
use Rattle.plane_hull.specs.declared.directions.Dir.{Dir}
use Rattle.plane_hull.specs.declared.sides.Point.{Point}
use Rattle.plane_hull.specs.declared.sides.SideRow.{SideRow}

-- each side stands at one of so many corners
abbrev pub StandAtCorners : ℕ → List SideRow → Type 0
StandAtCorners corners sides = (k : ℕ) (side : SideRow) → slice_get sides k ≡ Some side → side.corner < corners

-- a direction is (a, b)
abbrev pub IsDirection : ℤ → ℤ → Dir → Type 0
IsDirection a b dir = (dir.a ≡ a) × (dir.b ≡ b)

-- (1, 0), from which angles are counted
abbrev pub IsRight : Dir → Type 0
IsRight dir = IsDirection (pos 1) (pos 0) dir

-- one of the four axes
abbrev pub IsAxis : Dir → Type 0
IsAxis dir =
    IsRight dir
    ⊎ (IsDirection (pos 0) (pos 1) dir ⊎ (IsDirection (negsuc 0) (pos 0) dir ⊎ IsDirection (pos 0) (negsuc 0) dir))

-- (1, 0) at the side with this number is a full turn: everywhere but at the first side
abbrev pub IsFullTurn : ℕ → Dir → Type 0
IsFullTurn number dir = (0 < number) × IsRight dir

-- the side behind the one with this number has a greater angle
pub record TurnsOn (number : ℕ) (from to : Dir) : Type 0 where
  pub not_round : IsFullTurn number from → ⊥
  pub greater : IsRight to ⊎ (angle_cmp from to ≡ Less)

-- the number behind another one of so many, and the first behind the last
abbrev pub IsNext : ℕ → ℕ → ℕ → Type 0
IsNext count from to = ((from + 1 < count) × (to ≡ from + 1)) ⊎ ((from + 1 ≡ count) × (to ≡ 0))

-- a side stands behind the one with this number: at its corner with a greater angle, or in its direction at the next
abbrev pub MayFollow : ℕ → ℕ → SideRow → SideRow → Type 0
MayFollow corners number from to =
    ((from.corner ≡ to.corner) × TurnsOn number from.dir to.dir)
    ⊎ ((from.dir ≡ to.dir) × IsNext corners from.corner to.corner)

-- the first side has the direction (1, 0) and stands at corner 0
abbrev pub Begins : List SideRow → Type 0
Begins sides = (first : SideRow) → slice_get sides 0 ≡ Some first → IsRight first.dir × (first.corner ≡ 0)

-- each side but the first may follow the one before it
abbrev pub EachFollows : ℕ → List SideRow → Type 0
EachFollows corners sides =
    (k : ℕ) (from to : SideRow) → slice_get sides k ≡ Some from → slice_get sides (suc k) ≡ Some to
    → MayFollow corners k from to

-- some side has this direction
abbrev pub HasDirection : ℤ → ℤ → List SideRow → Type 0
HasDirection a b sides = (k : ℕ) × (side : SideRow) × (slice_get sides k ≡ Some side) × IsDirection a b side.dir

-- the three other axes stand among the directions
pub record HasAxes (sides : List SideRow) : Type 0 where
  pub up : HasDirection (pos 0) (pos 1) sides
  pub left : HasDirection (negsuc 0) (pos 0) sides
  pub down : HasDirection (pos 0) (negsuc 0) sides

-- behind the last side the first may follow
abbrev pub ClosesUp : ℕ → List SideRow → Type 0
ClosesUp corners sides =
    (k : ℕ) (last first : SideRow) → suc k ≡ length sides
    → slice_get sides k ≡ Some last → slice_get sides 0 ≡ Some first → MayFollow corners k last first

-- how often the corner changes from side to side, where this corner stands before the first
abbrev pub changes_from : ℕ → List SideRow → ℕ
changes_from corner [] = 0
changes_from corner (side ∷ sides) = (if corner == side.corner then 0 else 1) + changes_from side.corner sides

-- the corner of the last side
abbrev pub last_corner : List SideRow → ℕ
last_corner [] = 0
last_corner (side ∷ []) = side.corner
last_corner (side ∷ next ∷ sides) = last_corner (next ∷ sides)

-- on one round the corner changes once for each corner, and never where there is one alone
pub record GoesRoundOnce (corners : ℕ) (sides : List SideRow) : Type 0 where
  pub one_corner : corners ≡ 1 → changes_from (last_corner sides) sides ≡ 0
  pub more_corners : 2 ≤ corners → changes_from (last_corner sides) sides ≡ corners

-- the side right behind the one with this number, or the one right before it, has this direction
abbrev pub HasTwin : List SideRow → ℕ → Dir → Type 0
HasTwin sides number dir =
    (k : ℕ) × (other : SideRow) × ((k ≡ suc number) ⊎ (number ≡ suc k))
    × (slice_get sides k ≡ Some other) × (other.dir ≡ dir)

-- no direction stands at more than two sides, nor at two of one corner; any but an axis stands at two in a row
pub record DirectionsPairUp (sides : List SideRow) : Type 0 where
  pub at_most_two : (i j k : ℕ) (x y z : SideRow) → i < j → j < k
      → slice_get sides i ≡ Some x → slice_get sides j ≡ Some y → slice_get sides k ≡ Some z
      → x.dir ≡ y.dir → y.dir ≡ z.dir → ⊥
  pub corners_differ : (i j : ℕ) (x y : SideRow) → i < j
      → slice_get sides i ≡ Some x → slice_get sides j ≡ Some y → x.dir ≡ y.dir → x.corner ≢ y.corner
  pub two_in_a_row : (k : ℕ) (side : SideRow) → slice_get sides k ≡ Some side
      → IsAxis side.dir ⊎ HasTwin sides k side.dir

-- two sides stand at one corner, or at two whose points differ
abbrev pub PointsDiffer : List Point → SideRow → SideRow → Type 0
PointsDiffer points from to = from.corner ≢ to.corner → slice_get points from.corner ≢ slice_get points to.corner

-- where the corner changes from a side to the one behind it, the two points differ
abbrev pub CornersPart : List Point → List SideRow → Type 0
CornersPart points sides =
    (j k : ℕ) (from to : SideRow) → IsNext (length sides) j k
    → slice_get sides j ≡ Some from → slice_get sides k ≡ Some to → PointsDiffer points from to

-- the sides are a belt round these corners
pub record IsBelt (points : List Point) (sides : List SideRow) : Type 0 where
  pub begins : Begins sides
  pub follows : EachFollows (length points) sides
  pub axes : HasAxes sides
  pub closes : ClosesUp (length points) sides
  pub once : GoesRoundOnce (length points) sides
  pub pairs : DirectionsPairUp sides
  pub parts : CornersPart points sides

-- the belt of a point: right, up, left and down at its one corner
pub record AreFourAxes (sides : List SideRow) : Type 0 where
  pub four : length sides ≡ 4
  pub right : (side : SideRow) → slice_get sides 0 ≡ Some side → IsRight side.dir
  pub up : (side : SideRow) → slice_get sides 1 ≡ Some side → IsDirection (pos 0) (pos 1) side.dir
  pub left : (side : SideRow) → slice_get sides 2 ≡ Some side → IsDirection (negsuc 0) (pos 0) side.dir
  pub down : (side : SideRow) → slice_get sides 3 ≡ Some side → IsDirection (pos 0) (negsuc 0) side.dir
  pub corner : (k : ℕ) (side : SideRow) → slice_get sides k ≡ Some side → side.corner ≡ 0
