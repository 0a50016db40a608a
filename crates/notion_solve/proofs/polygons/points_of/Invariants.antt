-- As many points as corners were passed, each that of its corner.
use Rattle.std.proofs.Common.{◌≡◌, ◌<◌, ℕ, length}
use Rattle.std.specs.Prelude.{Some, slice_get}
use Rattle.report_form.specs.declared.reports.Corner.{Corner}
use Rattle.notion_solve.proofs.polygons.points_of.Given as goal

abbrev pub invariant-loop-k : goal.invariant-loop-k
invariant-loop-k l =
    (length l.points.items ≡ l.k)
    × ((k : ℕ) (corner : Corner) → k < l.k → slice_get l.corners k ≡ Some corner → slice_get l.points.items k ≡ Some corner.point)
