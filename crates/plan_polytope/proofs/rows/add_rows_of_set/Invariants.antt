-- Each sequence gone over has added one row at most, and the rows up to it are listed.
use Rattle.std.proofs.Common.{◌+◌, ◌≤◌, length}
use Rattle.incentive_rows.specs.Size.{HasRowBeside}
use Rattle.incentive_rows.specs.Sum.{IsSum}
use Rattle.plan_polytope.specs.RowCount.{IsLonger}
use Rattle.plan_polytope.specs.RowOrder.{AreRowsBelow}
use Rattle.plan_polytope.proofs.rows.add_rows_of_set.Given as goal

abbrev pub invariant-loop-beside : goal.invariant-loop-beside
invariant-loop-beside l = (length l.rows.items ≤ length l.initial.rows.items + l.beside) × AreRowsBelow l.game l.pairs l.at.0 l.at.1.0 l.beside l.rows.items
    × IsLonger (IsSum (HasRowBeside l.pairs l.at.0 l.at.1.0) l.beside) (length l.initial.rows.items) (length l.rows.items)
