-- No side so far has the direction.
use Rattle.std.proofs.Common.{◌≡◌, ℕ, ◌<◌, slice_get, Some}
use Rattle.plane_hull.specs.Belt.{IsDirection}
use Rattle.plane_hull.specs.declared.sides.SideRow.{SideRow}
use Rattle.plane_hull.proofs.belts.has_direction.Given as goal

abbrev pub invariant-loop-side : goal.invariant-loop-side
invariant-loop-side l = (k : ℕ) (side : SideRow) → k < l.side → slice_get l.sides k ≡ Some side → IsDirection l.a l.b side.dir → ⊥
