-- Where the rows of each trigger stand in a notion's program, and its values: by set and by action, behind those of the
-- triggers before.
use Rattle.std.specs.Prelude.{◌≡◌, ℕ, ◌+◌, ◌*◌, ◌<◌, ◌≤◌, List, length, Option, Some, None}
use Rattle.corr_game.specs.declared.nodes.SetInfo.{SetInfo}
use Rattle.corr_game.specs.declared.notions.Notion.{Notion}
use Rattle.corr_game.specs.declared.notions.Notion.TheVariants.{Efce, Efcce, Nfcce}
use Rattle.corr_game.specs.declared.sides.Side.{Side}
use Rattle.corr_game.specs.Game.{GameView, sets_of}
use Rattle.sequences.specs.Number.{Ends, IsOwn, side_of}
use Rattle.lp_form.specs.Program.{LpView, coefficient}
use Rattle.connected_pairs.specs.Connected.{PairsView}
use Rattle.incentive_rows.specs.declared.places.SetPlace.{SetPlace}
use Rattle.incentive_rows.specs.declared.triggers.Trigger.{Trigger}
use Rattle.incentive_rows.specs.Sum.{IsSum}
use Rattle.incentive_rows.specs.Trigger.{TriggersAt}
use Rattle.incentive_rows.specs.Size.{HasCount, HasCountAt, row_each, value_each}
use Rattle.incentive_rows.specs.Places.{ArePlaces}
use Rattle.incentive_rows.specs.Coefficient.{IsCoefficient}

-- the k-th trigger at a set: in EFCE that of its k-th action, in EFCCE the set's own
abbrev pub IsTriggerAt : Notion → PairsView → Side → ℕ → ℕ → Trigger → Type 0
IsTriggerAt Efce p side set k trigger =
    (trigger.side ≡ side) × (trigger.set ≡ Some record { 0 = set }) × (trigger.action ≡ Some k) × Ends (side_of side p.seqs).places (record { 0 = set }, k) trigger.seq
IsTriggerAt Efcce p side set k trigger =
    (trigger.side ≡ side) × (trigger.set ≡ Some record { 0 = set }) × (trigger.action ≡ None) × IsOwn (side_of side p.seqs) set trigger.seq
IsTriggerAt Nfcce p side set k trigger = ⊥

-- the trigger of a player who decides before play begins
abbrev pub at_start : Side → Trigger
at_start side = record {
  side = side;
  set = None;
  action = None;
  seq = 0;
}

-- how many rows, or values, of the player's triggers stand before the k-th trigger at a set
abbrev pub StandsBehind : (SetInfo → ℕ) → ℕ → Notion → GameView → PairsView → Side → ℕ → ℕ → ℕ → Type 0
StandsBehind each more notion g p side set k at =
    (before : ℕ) × (count : ℕ) × (times : ℕ) × IsSum (HasCountAt each more notion g p side) set before
    × HasCount each g p side (Some record { 0 = set }) count × TriggersAt notion g side set times × (k < times) × (at ≡ before + k * (count + more))

-- a trigger's rows stand in the program from row `first` on, and its values from that many values on: each coefficient
-- is the sum of its terms
pub record HasRowsOf (g : GameView) (p : PairsView) (trigger : Trigger) (first values floor cols : ℕ) (lp : LpView) : Type 0 where
  pub sets : List (Option SetPlace)
  pub value_count : ℕ
  pub row_count : ℕ
  pub placed : ArePlaces g p trigger.side trigger.set (length (sets_of trigger.side g)) sets value_count row_count
  pub inside : first + row_count < length lp.rows
  pub terms : (r k : ℕ) → r ≤ row_count → IsCoefficient g p trigger sets row_count (record {
    values = length p.pairs + values;
    floor = floor;
    slacks = floor + 1 + first;
    all = cols;
  }) r k (coefficient lp (first + r) k)

-- the rows of the k-th trigger at a set
abbrev pub HasRowsAt : Notion → GameView → PairsView → Side → ℕ → ℕ → ℕ → ℕ → ℕ → ℕ → LpView → Type 0
HasRowsAt notion g p side set k first values floor cols lp =
    (trigger : Trigger) × IsTriggerAt notion p side set k trigger × HasRowsOf g p trigger first values floor cols lp

-- the rows of the first `times` triggers at a set, one block behind the other
abbrev pub HasBlocks : Notion → GameView → PairsView → Side → ℕ → ℕ → ℕ → ℕ → ℕ → ℕ → LpView → Type 0
HasBlocks notion g p side set times first values floor cols lp =
    (k rows value : ℕ) → k < times → HasCount row_each g p side (Some record { 0 = set }) rows → HasCount value_each g p side (Some record { 0 = set }) value
    → HasRowsAt notion g p side set k (first + k * (rows + 1)) (values + k * (value + 0)) floor cols lp

-- the rows of all triggers at the first `count` sets of a player, behind so many rows and values
abbrev pub HasRowsAtSets : Notion → GameView → PairsView → Side → ℕ → ℕ → ℕ → ℕ → ℕ → LpView → Type 0
HasRowsAtSets notion g p side count rows values floor cols lp =
    (set k first value : ℕ) → set < count → StandsBehind row_each 1 notion g p side set k first → StandsBehind value_each 0 notion g p side set k value
    → HasRowsAt notion g p side set k (rows + first) (values + value) floor cols lp

-- the rows of all triggers of a player
abbrev pub HasRowsFor : Notion → GameView → PairsView → Side → ℕ → ℕ → ℕ → ℕ → LpView → Type 0
HasRowsFor Efce g p side rows values floor cols lp = HasRowsAtSets Efce g p side (length (sets_of side g)) rows values floor cols lp
HasRowsFor Efcce g p side rows values floor cols lp = HasRowsAtSets Efcce g p side (length (sets_of side g)) rows values floor cols lp
HasRowsFor Nfcce g p side rows values floor cols lp = HasRowsOf g p (at_start side) rows values floor cols lp
