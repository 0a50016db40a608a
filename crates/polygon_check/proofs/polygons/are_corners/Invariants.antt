-- The corners gone over are corners of the program.
use Rattle.std.proofs.Common.{ℕ, ◌<◌, get_or}
use Rattle.polygon_sweep.specs.Swept.{IsCornerOf}
use Rattle.polygon_sweep.specs.declared.corners.SweptCorner.{SweptCorner}
use Rattle.polygon_check.proofs.polygons.are_corners.Given as goal

abbrev pub invariant-loop-k : goal.invariant-loop-k
invariant-loop-k l = (i : ℕ) (d : SweptCorner) → i < l.k → IsCornerOf l.lp (get_or l.corners i d)
