-- The rows at the sets gone over are counted.
use Rattle.std.proofs.Common.{◌≤◌, ◌*◌}
use Rattle.incentive_rows.specs.Sum.{IsSum}
use Rattle.incentive_rows.specs.Size.{HasRowsOfSet}
use Rattle.incentive_rows.proofs.sizes.correlation_rows.Given as goal

abbrev pub invariant-loop-set : goal.invariant-loop-set
invariant-loop-set l = IsSum (HasRowsOfSet l.pairs l.side) l.set l.rows × (l.rows ≤ l.set * 4096)
