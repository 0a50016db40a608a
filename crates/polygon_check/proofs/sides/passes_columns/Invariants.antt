-- The columns gone over pass.
use Rattle.std.proofs.Common.{ℕ, ◌<◌}
use Rattle.polygon_check.specs.SideParts.{PassesColumn}
use Rattle.polygon_check.proofs.sides.passes_columns.Given as goal

abbrev pub invariant-loop-col : goal.invariant-loop-col
invariant-loop-col l = (k : ℕ) → k < l.col → PassesColumn l.lp l.side k
