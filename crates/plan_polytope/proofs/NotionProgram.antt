-- A notion's program is the polytope with the incentive rows behind it.
use Rattle.std.proofs.Common.{◌≡◌, ℕ, ◌+◌, ◌<◌, length, pos, refl, ◌∙◌}
use Rattle.corr_game.specs.declared.notions.Notion.{Notion}
use Rattle.corr_game.specs.declared.sides.Side.TheVariants.{One, Two}
use Rattle.corr_game.specs.Game.{GameView}
use Rattle.connected_pairs.specs.Connected.{PairsView}
use Rattle.incentive_rows.specs.Size.{HasIncentives, HasSize}
use Rattle.incentive_rows.specs.Standing.{HasRowsFor}
use Rattle.lp_form.proofs.JoinedRights.{is_program}
use Rattle.lp_form.specs.Program.{LpView, joined, right_of}
use Rattle.plan_polytope.specs.NotionProgram.{IsProgramOf}
use Rattle.plan_polytope.specs.Payoffs.{ArePayoffs}
use Rattle.plan_polytope.specs.Rows.{AreCorrelationRows}

-- the first part, with right sides of 1 in its first row and 0 in the others
pub record IsPolytope (g : GameView) (p : PairsView) (base : LpView) : Type 0 where
  pub columns : base.cols ≡ length p.pairs
  pub a_row : 0 < length base.rows
  pub correlation : AreCorrelationRows g p base
  pub payoffs : ArePayoffs g p base
  pub total : right_of base 0 ≡ pos 1
  pub others : (r : ℕ) → right_of base (r + 1) ≡ pos 0

-- the second part
pub record AreIncentives (g : GameView) (p : PairsView) (notion : Notion) (more : LpView) : Type 0 where
  pub columns : (rows columns : ℕ) → HasSize g p notion rows columns → more.cols ≡ columns
  pub rows : (rows values : ℕ) → HasIncentives g p notion rows values → length more.rows ≡ rows
  pub of_one : (rows values : ℕ) → HasIncentives g p notion rows values → HasRowsFor notion g p One 0 0 (length p.pairs + values) more.cols more
  pub of_two : (rows values : ℕ) (size : HasIncentives g p notion rows values) → HasRowsFor notion g p Two size.rows_one size.values_one (length p.pairs + values) more.cols more
  pub rights : (r : ℕ) → right_of more r ≡ pos 0

pub program_of_parts : (g : GameView) (p : PairsView) (notion : Notion) (base more : LpView) (rows columns : ℕ) → HasSize g p notion rows columns → IsPolytope g p base → AreIncentives g p notion more
    → IsProgramOf g p notion (joined base more)
program_of_parts g p notion base more rows columns size first second = record {
  base = base;
  more = more;
  parts = refl;
  right_sides = is_program base more first.a_row first.total first.others second.rights;
  columns = first.columns;
  correlation = first.correlation;
  payoffs = first.payoffs;
  incentives = size.incentives;
  values = size.values;
  size = size.behind;
  count = second.rows size.incentives size.values size.behind;
  all_columns = second.columns rows columns size ∙ size.all_columns;
  of_one = second.of_one size.incentives size.values size.behind;
  of_two = second.of_two size.incentives size.values size.behind;
}
