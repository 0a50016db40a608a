-- The triggers of a notion's program, and values of their sets that are worth no more than following (von Stengel and Forges 2008;
-- Farina, Bianchi and Sandholm 2020).
use Rattle.std.specs.Prelude.{◌≡◌, ℕ, ◌<◌, Option, Some, None, ℤ, ◌≤ℤ◌}
use Rattle.corr_game.specs.declared.nodes.SetId.{SetId}
use Rattle.corr_game.specs.declared.notions.Notion.{Notion}
use Rattle.corr_game.specs.declared.notions.Notion.TheVariants.{Efce, Efcce, Nfcce}
use Rattle.corr_game.specs.declared.sides.Side.{Side}
use Rattle.corr_game.specs.Game.{GameView}
use Rattle.connected_pairs.specs.Connected.{PairsView}
use Rattle.equilibrium.specs.declared.triggers.Trigger.{Trigger as Deviation}
use Rattle.equilibrium.specs.declared.triggers.Trigger.TheVariants.{Told, Reached, Start}
use Rattle.incentive_rows.specs.declared.triggers.Trigger.{Trigger}
use Rattle.incentive_rows.specs.Standing.{IsTriggerAt}
use Rattle.incentive_rows.specs.Standing.{at_start as start_trigger}
use Rattle.incentive_rows.specs.Trigger.{TriggersAt}
use Rattle.equilibrium_solutions.specs.Decision.{AreValues, at_start}
use Rattle.equilibrium_solutions.specs.Departure.{OwnSequences, departure, followed}

-- the set and the action of a trigger, where it has them
abbrev pub top_of : Deviation → Option SetId
top_of (Told set action) = Some set
top_of (Reached set) = Some set
top_of Start = None

abbrev pub action_of : Deviation → Option ℕ
action_of (Told set action) = Some action
action_of (Reached set) = None
action_of Start = None

-- a trigger as the program has it, with its sequence
abbrev pub stands_for : Side → Deviation → ℕ → Trigger
stands_for side left seq = record {
  side = side;
  set = top_of left;
  action = action_of left;
  seq = seq;
}

-- the k-th trigger at some set
abbrev pub IsSomeTriggerAt : Notion → GameView → PairsView → Side → Trigger → Type 0
IsSomeTriggerAt notion g p side trigger = (set : ℕ) × (k : ℕ) × (times : ℕ) × TriggersAt notion g side set times × (k < times) × IsTriggerAt notion p side set k trigger

-- the triggers whose rows a notion's program has
abbrev pub IsProgramTrigger : Notion → GameView → PairsView → Side → Trigger → Type 0
IsProgramTrigger Efce g p side trigger = IsSomeTriggerAt Efce g p side trigger
IsProgramTrigger Efcce g p side trigger = IsSomeTriggerAt Efcce g p side trigger
IsProgramTrigger Nfcce g p side trigger = trigger ≡ start_trigger side

-- a trigger's sets have values that are worth no more than following
abbrev pub HasValues : (g : GameView) → PairsView → (trigger : Trigger) → OwnSequences trigger.side g → (ℕ → ℤ) → Type 0
HasValues g p trigger own x =
    (value : ℕ → ℤ) × AreValues (departure g p trigger own x) value
    × (at_start (departure g p trigger own x) value ≤ℤ followed g p trigger own x)
