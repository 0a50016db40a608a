-- Sides that go round corners whose points are yet to be made (the belt of sides of a convex polygon; Preparata and Shamos 1985).
use Rattle.std.specs.Prelude.{◌≡◌, ◌≢◌, ℕ, List, length, slice_get}
use Rattle.plane_hull.specs.Belt.{IsBelt}
use Rattle.plane_hull.specs.declared.sides.Point.{Point}
use Rattle.polygon_sweep.specs.declared.corners.Swept.{Swept}
use Rattle.polygon_sweep.specs.Round.{AreApart}

-- the sides are a belt round any points, one for each corner, of which two differ where the corners do
abbrev pub IsBeltRoundPoints : Swept → Type 0
IsBeltRoundPoints swept =
    (points : List Point) → length points ≡ length swept.corners
    → ((j k : ℕ) → AreApart swept.corners j k → slice_get points j ≢ slice_get points k) → IsBelt points swept.sides
