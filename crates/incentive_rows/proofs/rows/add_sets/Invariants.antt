-- The triggers at the sets gone over have added their rows, which stand where they were added.
use Rattle.std.proofs.Common.{ℕ, length}
use Rattle.incentive_rows.specs.Sum.{IsSum}
use Rattle.incentive_rows.specs.Part.{AddsTo}
use Rattle.incentive_rows.specs.Size.{HasCountAt, row_each, value_each}
use Rattle.incentive_rows.specs.Standing.{HasRowsAtSets}
use Rattle.incentive_rows.proofs.rows.add_sets.Given as goal

abbrev pub invariant-loop-set : goal.invariant-loop-set
invariant-loop-set l =
    ((rows values : ℕ) → IsSum (HasCountAt row_each 1 l.notion l.game l.pairs l.side) l.set rows → IsSum (HasCountAt value_each 0 l.notion l.game l.pairs l.side) l.set values
    → AddsTo l.initial.made l.made rows values)
    × HasRowsAtSets l.notion l.game l.pairs l.side l.set (length l.initial.made.lp.rows) l.initial.made.values l.initial.made.floor l.initial.made.lp.cols l.made.lp
