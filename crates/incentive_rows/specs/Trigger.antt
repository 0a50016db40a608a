-- Triggers, where a player may leave the mediator (von Stengel and Forges 2008; Farina, Bianchi and Sandholm 2020): in
-- EFCE each action of a set, in EFCCE each set, in NFCCE one without a set, before play begins.
use Rattle.std.specs.Prelude.{◌≡◌, ℕ, ◌<◌, Option, Some, None, slice_get}
use Rattle.corr_game.specs.declared.nodes.SetId.{SetId}
use Rattle.corr_game.specs.declared.nodes.SetInfo.{SetInfo}
use Rattle.corr_game.specs.declared.notions.Notion.{Notion}
use Rattle.corr_game.specs.declared.notions.Notion.TheVariants.{Efce, Efcce, Nfcce}
use Rattle.corr_game.specs.declared.sides.Side.{Side}
use Rattle.corr_game.specs.Game.{GameView, sets_of}
use Rattle.sequences.specs.Number.{SeqsView, SideView, IsUnder, Holds, side_of, count_of}
use Rattle.connected_pairs.specs.Connected.{IsPrefix}
use Rattle.incentive_rows.specs.declared.triggers.Trigger.{Trigger}

-- the sets of a trigger: its own and those below, or all where it has none
abbrev pub HasSet : SideView → Option SetId → ℕ → Type 0
HasSet v None set = Unit {0}
HasSet v (Some top) set = IsUnder v set top.0

-- how many triggers stand at a set
abbrev pub TriggersAt : Notion → GameView → Side → ℕ → ℕ → Type 0
TriggersAt Efce g side set times = (info : SetInfo) × (slice_get (sets_of side g) set ≡ Some info) × (times ≡ info.actions)
TriggersAt Efcce g side set times = times ≡ 1
TriggersAt Nfcce g side set times = times ≡ 0

-- a trigger's sequence is one of its player's
abbrev pub IsKnown : SeqsView → Trigger → Type 0
IsKnown s trigger = trigger.seq < count_of (side_of trigger.side s)

-- a sequence has followed the trigger: in EFCE it begins with the trigger's sequence, in EFCCE it holds a choice at the
-- trigger's set, in NFCCE it is any
abbrev pub FollowsFrom : SideView → Option SetId → Option ℕ → ℕ → ℕ → Type 0
FollowsFrom v None action part seq = Unit {0}
FollowsFrom v (Some top) None part seq = Holds v top.0 seq
FollowsFrom v (Some top) (Some action) part seq = IsPrefix v part seq

abbrev pub Follows : SideView → Trigger → ℕ → Type 0
Follows v trigger seq = FollowsFrom v trigger.set trigger.action trigger.seq seq
