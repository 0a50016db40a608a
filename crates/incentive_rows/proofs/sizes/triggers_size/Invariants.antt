-- The triggers at the sets gone over are counted.
use Rattle.std.proofs.Common.{◌≤◌, ◌*◌, ◌^◌}
use Rattle.incentive_rows.specs.Sum.{IsSum}
use Rattle.incentive_rows.specs.Size.{HasCountAt, row_each, value_each}
use Rattle.incentive_rows.proofs.sizes.triggers_size.Given as goal

abbrev pub invariant-loop-set : goal.invariant-loop-set
invariant-loop-set l =
    IsSum (HasCountAt row_each 1 l.notion l.game l.pairs l.side) l.set l.size.rows
    × IsSum (HasCountAt value_each 0 l.notion l.game l.pairs l.side) l.set l.size.values
    × (l.size.rows ≤ l.set * 2 ^ 25)
    × (l.size.values ≤ l.set * 2 ^ 25)
