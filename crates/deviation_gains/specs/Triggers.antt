-- Triggers, where a player may leave the mediator (von Stengel and Forges 2008; Farina, Bianchi and Sandholm 2020): a set
-- with the sequence that was recommended so far, or no set before play begins.
use Rattle.std.specs.Prelude.{◌<◌, Option, Some, None, length}
use Rattle.corr_game.specs.declared.nodes.SetId.{SetId}
use Rattle.sequences.specs.Number.{SeqsView, SideView, count_of, side_of}
use Rattle.deviation_gains.specs.declared.deviations.Trigger.{Trigger}

-- a set, if there is one, is a player's
abbrev pub IsSetOf : SideView → Option SetId → Type 0
IsSetOf v None = Unit {0}
IsSetOf v (Some set) = set.0 < length v.places

-- a trigger's set and sequence are its player's
abbrev pub IsKnown : SeqsView → Trigger → Type 0
IsKnown s trigger = (trigger.seq < count_of (side_of trigger.side s)) × IsSetOf (side_of trigger.side s) trigger.set
