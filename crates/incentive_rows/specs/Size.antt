-- How many rows and columns the program of a notion has: the correlation rows by connection (von Stengel and Forges
-- 2008), and for each trigger a value of each of its sets, a row for each action there and one row that compares.
use Rattle.std.specs.Prelude.{◌≡◌, ℕ, ◌+◌, ◌*◌, Option, Some, None, length, slice_get}
use Rattle.corr_game.specs.declared.nodes.SetId.{SetId}
use Rattle.corr_game.specs.declared.nodes.SetInfo.{SetInfo}
use Rattle.corr_game.specs.declared.notions.Notion.{Notion}
use Rattle.corr_game.specs.declared.notions.Notion.TheVariants.{Efce, Efcce, Nfcce}
use Rattle.corr_game.specs.declared.sides.Side.{Side}
use Rattle.corr_game.specs.declared.sides.Side.TheVariants.{One, Two}
use Rattle.corr_game.specs.Game.{GameView, sets_of}
use Rattle.sequences.specs.Number.{count_of, last_of, side_of}
use Rattle.connected_pairs.specs.Connected.{PairsView, IsTouched, other}
use Rattle.incentive_rows.specs.Sum.{IsSum, IsWhere}
use Rattle.incentive_rows.specs.Trigger.{HasSet, TriggersAt}

-- a row beside a sequence of the other player, where that is empty or its last set is connected to this one
abbrev pub HasRowBeside : PairsView → Side → ℕ → ℕ → ℕ → Type 0
HasRowBeside p side set beside rows =
    IsWhere (IsTouched p (other side) set (last_of (side_of (other side) p.seqs) beside)) 1 rows

-- the correlation rows at a set
abbrev pub HasRowsOfSet : PairsView → Side → ℕ → ℕ → Type 0
HasRowsOfSet p side set rows = IsSum (HasRowBeside p side set) (count_of (side_of (other side) p.seqs)) rows

-- the correlation rows at a player's sets
abbrev pub HasCorrelationRows : GameView → PairsView → Side → ℕ → Type 0
HasCorrelationRows g p side rows = IsSum (HasRowsOfSet p side) (length (sets_of side g)) rows

-- what a set of a trigger counts for: its actions are rows, and it is one value
abbrev pub row_each : SetInfo → ℕ
row_each info = info.actions

abbrev pub value_each : SetInfo → ℕ
value_each info = 1

-- what a set counts for under the triggers that have it
abbrev pub CountsFor : (SetInfo → ℕ) → GameView → PairsView → Side → Option SetId → ℕ → ℕ → Type 0
CountsFor each g p side top set count =
    (info : SetInfo) × (slice_get (sets_of side g) set ≡ Some info) × IsWhere (HasSet (side_of side p.seqs) top set) (each info) count

-- the sum over a trigger's sets
abbrev pub HasCount : (SetInfo → ℕ) → GameView → PairsView → Side → Option SetId → ℕ → Type 0
HasCount each g p side top count = IsSum (CountsFor each g p side top) (length (sets_of side g)) count

-- that and so many `more`, for each of the triggers at a set
abbrev pub HasCountAt : (SetInfo → ℕ) → ℕ → Notion → GameView → PairsView → Side → ℕ → ℕ → Type 0
HasCountAt each more notion g p side set total =
    (times : ℕ) × (count : ℕ) × TriggersAt notion g side set times × HasCount each g p side (Some record { 0 = set }) count × (total ≡ times * (count + more))

-- the sum over the triggers at a player's sets
abbrev pub HasTotalAt : (SetInfo → ℕ) → ℕ → Notion → GameView → PairsView → Side → ℕ → Type 0
HasTotalAt each more notion g p side total = IsSum (HasCountAt each more notion g p side) (length (sets_of side g)) total

-- the sum over all triggers of a player
abbrev pub HasTotal : (SetInfo → ℕ) → ℕ → Notion → GameView → PairsView → Side → ℕ → Type 0
HasTotal each more Efce g p side total = HasTotalAt each more Efce g p side total
HasTotal each more Efcce g p side total = HasTotalAt each more Efcce g p side total
HasTotal each more Nfcce g p side total = (count : ℕ) × HasCount each g p side None count × (total ≡ count + more)

-- the incentive rows and the value columns of both players: a trigger has one row more than its sets have actions
pub record HasIncentives (g : GameView) (p : PairsView) (notion : Notion) (rows values : ℕ) : Type 0 where
  pub rows_one : ℕ
  pub rows_two : ℕ
  pub values_one : ℕ
  pub values_two : ℕ
  pub of_one : HasTotal row_each 1 notion g p One rows_one
  pub of_two : HasTotal row_each 1 notion g p Two rows_two
  pub values_of_one : HasTotal value_each 0 notion g p One values_one
  pub values_of_two : HasTotal value_each 0 notion g p Two values_two
  pub all_rows : rows ≡ rows_one + rows_two
  pub all_values : values ≡ values_one + values_two

-- the rows are the total row, the correlation rows and the incentive rows; the columns are the relevant pairs, the
-- values, the floor and a slack for each incentive row
pub record HasSize (g : GameView) (p : PairsView) (notion : Notion) (rows columns : ℕ) : Type 0 where
  pub before_one : ℕ
  pub before_two : ℕ
  pub incentives : ℕ
  pub values : ℕ
  pub at_one : HasCorrelationRows g p One before_one
  pub at_two : HasCorrelationRows g p Two before_two
  pub behind : HasIncentives g p notion incentives values
  pub all_rows : rows ≡ 1 + before_one + before_two + incentives
  pub all_columns : columns ≡ length p.pairs + values + 1 + incentives
