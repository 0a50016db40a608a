-- Strict polygons: a belt of sides whose corners lie inside, none of them needless. So are segments and points.
use Rattle.std.specs.Prelude.{◌≡◌, ℕ, ◌<◌, List, length, ℤ, pos, ◌<ℤ◌, slice_get, Some}
use Rattle.corr_num.specs.Fraction.{IsLowest}
use Rattle.plane_hull.specs.declared.sides.Point.{Point}
use Rattle.plane_hull.specs.declared.sides.SideRow.{SideRow}
use Rattle.plane_hull.specs.Belt.{IsBelt, StandAtCorners}
use Rattle.plane_hull.specs.Inside.{IsInside, corner_at}
use Rattle.plane_hull.specs.Mixture.{IsMixtureOfOthers}

-- every corner lies inside
abbrev pub CornersInside : ℤ → ℤ → List Point → List SideRow → Type 0
CornersInside one two points sides = (k : ℕ) → k < length points → IsInside one two points sides (corner_at points k)

-- no corner is a mixture of the others
abbrev pub CornersNeeded : List Point → Type 0
CornersNeeded points = (k : ℕ) → k < length points → IsMixtureOfOthers points k (corner_at points k) → ⊥

-- the sides go round the corners, which lie inside, and no corner is a mixture of the others
pub record IsStrictPolygon (one two : ℤ) (points : List Point) (sides : List SideRow) : Type 0 where
  pub belt : IsBelt points sides
  pub inside : CornersInside one two points sides
  pub needed : CornersNeeded points

-- the coordinates of points are fractions in lowest terms
abbrev pub AreFractions : List Point → Type 0
AreFractions points = (k : ℕ) (p : Point) → slice_get points k ≡ Some p → IsLowest p.one × IsLowest p.two

-- the corners of a belt, and the sides that stand at them, with scales above 0
pub record AreCornersInside (one two : ℤ) (points : List Point) (sides : List SideRow) : Type 0 where
  pub first_scale : pos 0 <ℤ one
  pub second_scale : pos 0 <ℤ two
  pub fractions : AreFractions points
  pub some : 0 < length points
  pub stand : StandAtCorners (length points) sides
  pub belt : IsBelt points sides
  pub inside : CornersInside one two points sides
