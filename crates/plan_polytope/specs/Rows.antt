-- The rows of the polytope of correlation plans (von Stengel and Forges 2008): the total row, and then one row for each
-- set and each sequence of the other player beside it.
use Rattle.std.specs.Prelude.{◌≡◌, ◌+◌, List, length}
use Rattle.corr_game.specs.Game.{GameView}
use Rattle.lp_form.specs.Program.{LpView}
use Rattle.connected_pairs.specs.Connected.{PairsView}
use Rattle.plan_polytope.specs.declared.rows.Row.{Row}
use Rattle.plan_polytope.specs.CorrelationRow.{AreFilled, IsTotalRow}
use Rattle.plan_polytope.specs.RowCount.{HasBothCounts}
use Rattle.plan_polytope.specs.RowOrder.{AreAllRows}

-- the rows of a program are the total row and then each correlation row once, in their order
pub record AreCorrelationRows (g : GameView) (p : PairsView) (lp : LpView) : Type 0 where
  pub rows : List Row
  pub listed : AreAllRows g p rows
  pub both_players : HasBothCounts g p (length rows)
  pub count : length lp.rows ≡ length rows + 1
  pub total : IsTotalRow p lp 0
  pub filled : AreFilled p rows lp
