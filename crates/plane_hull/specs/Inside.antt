-- Points of the plane of payoffs inside a polygon: on no side's far side. Each side is a half-plane at its corner.
use Rattle.std.specs.Prelude.{◌≡◌, ℕ, zero, suc, List, [], ◌∷◌, slice_get, Some, ℤ, pos, ◌+ℤ◌, ◌*ℤ◌, ◌≤ℤ◌}
use Rattle.plane_hull.specs.declared.directions.Dir.{Dir}
use Rattle.plane_hull.specs.declared.sides.Point.{Point}
use Rattle.plane_hull.specs.declared.sides.SideRow.{SideRow}

-- a point of the plane: x/den and y/den
pub record PlanePoint : Type 0 where
  pub x : ℤ
  pub y : ℤ
  pub den : ℤ

-- two payoffs as a point of the plane, over the product of their denominators
abbrev pub plane_point : Point → PlanePoint
plane_point p = record { x = p.one.num *ℤ p.two.den; y = p.two.num *ℤ p.one.den; den = p.one.den *ℤ p.two.den }

-- the corner with this number, and the origin where there is none
abbrev pub corner_at : List Point → ℕ → PlanePoint
corner_at [] k = record { x = pos 0; y = pos 0; den = pos 1 }
corner_at (p ∷ ps) zero = plane_point p
corner_at (p ∷ ps) (suc k) = corner_at ps k

-- how far a point lies in a direction, once the two payoffs are scaled, times its denominator
abbrev pub reach : ℤ → ℤ → Dir → PlanePoint → ℤ
reach one two dir p = dir.a *ℤ (one *ℤ p.x) +ℤ dir.b *ℤ (two *ℤ p.y)

-- a point lies no further in a direction than another one
abbrev pub NoFurther : ℤ → ℤ → Dir → PlanePoint → PlanePoint → Type 0
NoFurther one two dir p q = (reach one two dir p *ℤ q.den) ≤ℤ (reach one two dir q *ℤ p.den)

-- a point lies no further in each side's direction than the side's corner
abbrev pub IsInside : ℤ → ℤ → List Point → List SideRow → PlanePoint → Type 0
IsInside one two points sides p =
    (k : ℕ) (side : SideRow) → slice_get sides k ≡ Some side
    → NoFurther one two side.dir p (corner_at points side.corner)
