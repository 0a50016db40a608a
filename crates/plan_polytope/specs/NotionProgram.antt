-- The program whose solutions are a notion's equilibria, summed over pairs of sequences (von Stengel and Forges 2008; Farina, Bianchi
-- and Sandholm 2020).
use Rattle.std.specs.Prelude.{◌≡◌, ℕ, ◌+◌, length}
use Rattle.corr_game.specs.declared.notions.Notion.{Notion}
use Rattle.corr_game.specs.declared.sides.Side.TheVariants.{One, Two}
use Rattle.corr_game.specs.Game.{GameView}
use Rattle.connected_pairs.specs.Connected.{PairsView}
use Rattle.incentive_rows.specs.Size.{HasIncentives}
use Rattle.incentive_rows.specs.Standing.{HasRowsFor}
use Rattle.lp_form.specs.Program.{IsProgram, LpView, joined}
use Rattle.plan_polytope.specs.Payoffs.{ArePayoffs}
use Rattle.plan_polytope.specs.Rows.{AreCorrelationRows}

-- the program of a notion: the correlation rows and what the leaves pay, over the relevant pairs, and behind them the incentive rows of
-- both players' triggers; its columns are the pairs, the values, the floor and a slack for each incentive row
pub record IsProgramOf (g : GameView) (p : PairsView) (notion : Notion) (lp : LpView) : Type 0 where
  pub base : LpView
  pub more : LpView
  pub parts : lp ≡ joined base more
  pub right_sides : IsProgram lp
  pub columns : base.cols ≡ length p.pairs
  pub correlation : AreCorrelationRows g p base
  pub payoffs : ArePayoffs g p base
  pub incentives : ℕ
  pub values : ℕ
  pub size : HasIncentives g p notion incentives values
  pub count : length more.rows ≡ incentives
  pub all_columns : more.cols ≡ length p.pairs + values + 1 + incentives
  pub of_one : HasRowsFor notion g p One 0 0 (length p.pairs + values) more.cols more
  pub of_two : HasRowsFor notion g p Two size.rows_one size.values_one (length p.pairs + values) more.cols more
