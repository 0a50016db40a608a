-- Each set gone over has added 4096 rows at most, and the rows up to it are listed.
use Rattle.std.proofs.Common.{◌+◌, ◌*◌, ◌≤◌, length}
use Rattle.incentive_rows.specs.Size.{HasRowsOfSet}
use Rattle.incentive_rows.specs.Sum.{IsSum}
use Rattle.plan_polytope.specs.RowCount.{IsLonger}
use Rattle.plan_polytope.specs.RowOrder.{AreRowsBelow}
use Rattle.plan_polytope.proofs.rows.add_rows.Given as goal

abbrev pub invariant-loop-set : goal.invariant-loop-set
invariant-loop-set l = (length l.rows.items ≤ length l.initial.rows.items + l.set * 4096) × AreRowsBelow l.game l.pairs l.side l.set 0 l.rows.items
    × IsLonger (IsSum (HasRowsOfSet l.pairs l.side) l.set) (length l.initial.rows.items) (length l.rows.items)
