-- Polygons of numbers so small that products of four of them and two such sums fit 128 bits.
use Rattle.std.specs.Prelude.{◌≡◌, ℕ, ◌^◌, ◌≤◌, List, slice_get, Some, unsigned_abs}
use Rattle.plane_hull.specs.declared.directions.Dir.{Dir}
use Rattle.plane_hull.specs.declared.sides.Point.{Point}
use Rattle.plane_hull.specs.declared.sides.SideRow.{SideRow}
use Rattle.plane_hull.specs.Inside.{PlanePoint}
use Rattle.plain_programs.specs.declared.insides.Place.{Place}

-- the point of the plane
abbrev pub place_at : Place → PlanePoint
place_at p = record { x = p.x; y = p.y; den = p.den }

-- numbers up to 2^20
pub record IsSmallPlace (p : PlanePoint) : Type 0 where
  pub x : unsigned_abs p.x ≤ 2 ^ 20
  pub y : unsigned_abs p.y ≤ 2 ^ 20
  pub den : unsigned_abs p.den ≤ 2 ^ 20

pub record IsSmallDirection (dir : Dir) : Type 0 where
  pub a : unsigned_abs dir.a ≤ 2 ^ 20
  pub b : unsigned_abs dir.b ≤ 2 ^ 20

-- payoffs of numerators and denominators up to 2^10
pub record IsSmallPoint (p : Point) : Type 0 where
  pub one_num : unsigned_abs p.one.num ≤ 2 ^ 10
  pub one_den : unsigned_abs p.one.den ≤ 2 ^ 10
  pub two_num : unsigned_abs p.two.num ≤ 2 ^ 10
  pub two_den : unsigned_abs p.two.den ≤ 2 ^ 10

abbrev pub AreSmallPoints : List Point → Type 0
AreSmallPoints points = (k : ℕ) (p : Point) → slice_get points k ≡ Some p → IsSmallPoint p

abbrev pub AreSmallSides : List SideRow → Type 0
AreSmallSides sides = (k : ℕ) (side : SideRow) → slice_get sides k ≡ Some side → IsSmallDirection side.dir
