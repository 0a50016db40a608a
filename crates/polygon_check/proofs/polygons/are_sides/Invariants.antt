-- The sides gone over are sides at the corners.
use Rattle.std.proofs.Common.{ℕ, ◌<◌, get_or}
use Rattle.plane_hull.specs.declared.sides.SideRow.{SideRow}
use Rattle.polygon_sweep.specs.Swept.{IsSideAmong}
use Rattle.polygon_check.proofs.polygons.are_sides.Given as goal

abbrev pub invariant-loop-k : goal.invariant-loop-k
invariant-loop-k l = (i : ℕ) (d : SideRow) → i < l.k → IsSideAmong l.lp l.swept.corners (get_or l.swept.sides i d)
