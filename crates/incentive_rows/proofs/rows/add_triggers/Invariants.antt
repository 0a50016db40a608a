-- Each trigger gone over has added one block, which stands where it was added.
use Rattle.std.proofs.Common.{ℕ, ◌+◌, ◌*◌, Some, length}
use Rattle.incentive_rows.specs.Part.{AddsTo}
use Rattle.incentive_rows.specs.Size.{HasCount, row_each, value_each}
use Rattle.incentive_rows.specs.Standing.{HasBlocks}
use Rattle.incentive_rows.proofs.rows.add_triggers.Given as goal

abbrev pub invariant-loop-k : goal.invariant-loop-k
invariant-loop-k l =
    ((rows values : ℕ) → HasCount row_each l.game l.pairs l.at.0 (Some l.at.1) rows → HasCount value_each l.game l.pairs l.at.0 (Some l.at.1) values
    → AddsTo l.initial.made l.made (l.k * (rows + 1)) (l.k * (values + 0)))
    × HasBlocks l.notion l.game l.pairs l.at.0 l.at.1.0 l.k (length l.initial.made.lp.rows) l.initial.made.values l.initial.made.floor l.initial.made.lp.cols l.made.lp
