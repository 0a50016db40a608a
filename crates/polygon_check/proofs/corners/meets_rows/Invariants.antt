-- The rows passed are met.
use Rattle.std.proofs.Common.{ℕ, ◌<◌}
use Rattle.polygon_check.specs.CornerParts.{MeetsRow}
use Rattle.polygon_check.proofs.corners.meets_rows.Given as goal

abbrev pub invariant-loop-row : goal.invariant-loop-row
invariant-loop-row l = (k : ℕ) → k < l.row → MeetsRow l.lp l.corner k
