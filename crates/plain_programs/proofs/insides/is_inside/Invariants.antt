-- The point lies no further in the sides so far.
use Rattle.std.proofs.Common.{◌≡◌, ℕ, ◌<◌, slice_get, Some}
use Rattle.plane_hull.specs.Inside.{NoFurther, corner_at}
use Rattle.plane_hull.specs.declared.sides.SideRow.{SideRow}
use Rattle.plain_programs.specs.SmallPolygon.{place_at}
use Rattle.plain_programs.proofs.insides.is_inside.Given as goal

abbrev pub invariant-loop-k : goal.invariant-loop-k
invariant-loop-k l = (k : ℕ) (side : SideRow) → k < l.k → slice_get l.sides k ≡ Some side → NoFurther l.scales.0 l.scales.1 side.dir (place_at l.p) (corner_at l.points side.corner)
