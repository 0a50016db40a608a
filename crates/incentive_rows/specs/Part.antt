-- The incentive rows that are made so far, and the room that the program's columns leave for further ones.
use Rattle.std.specs.Prelude.{◌≡◌, ℕ, ◌+◌, ◌^◌, ◌<◌, ◌≤◌, length, pos}
use Rattle.corr_game.specs.declared.sides.Side.{Side}
use Rattle.lp_form.specs.Program.{LpView, entries_of, right_of, payoff_of}
use Rattle.connected_pairs.specs.Connected.{PairsView}
use Rattle.incentive_rows.specs.declared.blocks.Columns.{Columns}
use Rattle.incentive_rows.specs.declared.rows.Part.{Part}
use Rattle.incentive_rows.specs.Bounds.{IsWithin}

-- right sides and payoff rows are 0, and coefficients are within 2^42
pub record AreIncentives (lp : LpView) : Type 0 where
  pub rights : (r : ℕ) → right_of lp r ≡ pos 0
  pub payoffs : (side : Side) (k : ℕ) → payoff_of side lp k ≡ pos 0
  pub within : IsWithin (2 ^ 42) lp

-- the pairs, then a trigger's values, then the floor, then its slacks have columns of their own
pub record AreApart (p : PairsView) (columns : Columns) (values rows : ℕ) : Type 0 where
  pub behind_pairs : length p.pairs ≤ columns.values
  pub before_floor : columns.values + values ≤ columns.floor
  pub behind_floor : columns.floor < columns.slacks
  pub last : columns.slacks + rows ≤ columns.all
  pub few : columns.all ≤ 8192

-- so many further rows and values have columns
pub record HasRoom (p : PairsView) (part : Part) (rows values : ℕ) : Type 0 where
  pub for_values : length p.pairs + part.values + values ≤ part.floor
  pub for_slacks : part.floor + 1 + length part.lp.rows + rows ≤ part.lp.cols
  pub few : part.lp.cols ≤ 8192

-- the rows of one program are the first ones of another
pub record Extends (before after : LpView) : Type 0 where
  pub more : length before.rows ≤ length after.rows
  pub same : (r : ℕ) → r < length before.rows → entries_of after r ≡ entries_of before r

-- so many rows and values were added
pub record AddsTo (before after : Part) (rows values : ℕ) : Type 0 where
  pub more_rows : length after.lp.rows ≡ length before.lp.rows + rows
  pub more_values : after.values ≡ before.values + values
  pub floor : after.floor ≡ before.floor
  pub columns : after.lp.cols ≡ before.lp.cols
  pub made : AreIncentives after.lp
  pub extends : Extends before.lp after.lp
