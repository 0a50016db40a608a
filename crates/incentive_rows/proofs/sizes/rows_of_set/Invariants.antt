-- The rows beside the sequences gone over are counted.
use Rattle.std.proofs.Common.{◌≤◌}
use Rattle.incentive_rows.specs.Sum.{IsSum}
use Rattle.incentive_rows.specs.Size.{HasRowBeside}
use Rattle.incentive_rows.proofs.sizes.rows_of_set.Given as goal

abbrev pub invariant-loop-beside : goal.invariant-loop-beside
invariant-loop-beside l = IsSum (HasRowBeside l.pairs l.side l.set.0) l.beside l.rows × (l.rows ≤ l.beside)
