-- What the sets gone over count for is counted.
use Rattle.std.proofs.Common.{◌≤◌, ◌*◌}
use Rattle.incentive_rows.specs.Sum.{IsSum}
use Rattle.incentive_rows.specs.Size.{CountsFor, row_each, value_each}
use Rattle.incentive_rows.proofs.sizes.trigger_size.Given as goal

abbrev pub invariant-loop-set : goal.invariant-loop-set
invariant-loop-set l =
    IsSum (CountsFor row_each l.game l.pairs l.side l.top) l.set l.size.rows
    × IsSum (CountsFor value_each l.game l.pairs l.side l.top) l.set l.size.values
    × (l.size.rows ≤ l.set * 64)
    × (l.size.values ≤ l.set)
