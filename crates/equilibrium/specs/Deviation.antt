-- Where a player may leave the mediator, for what, and what the player gets then (extensive-form correlated equilibrium, von Stengel
-- and Forges 2008; coarse ones, Farina, Bianchi and Sandholm 2020, and Moulin and Vial 1978).
use Rattle.std.specs.Prelude.{◌≡◌, ℕ, ◌<◌, Bool, true, ◌&&◌, cond, List, length, Option, Some, slice_get, ℤ}
use Rattle.corr_game.specs.declared.nodes.SetInfo.{SetInfo}
use Rattle.corr_game.specs.declared.notions.Notion.{Notion}
use Rattle.corr_game.specs.declared.notions.Notion.TheVariants.{Efce, Efcce, Nfcce}
use Rattle.corr_game.specs.declared.sides.Side.{Side}
use Rattle.corr_game.specs.declared.sides.Side.TheVariants.{One, Two}
use Rattle.corr_game.specs.Game.{GameView, sets_of}
use Rattle.corr_game.specs.Walk.{walk}
use Rattle.equilibrium.specs.declared.triggers.Trigger.{Trigger}
use Rattle.equilibrium.specs.declared.triggers.Trigger.TheVariants.{Told, Reached, Start}
use Rattle.equilibrium.specs.Distribution.{Entry, pay, weighted}
use Rattle.equilibrium.specs.FullChoice.{graft, replaced}
use Rattle.equilibrium.specs.Reach.{leads, names}

-- the triggers of a player under a notion: a recommended action at a set, a set that is reached, or the start of play
abbrev pub IsTriggerOf : Notion → GameView → Side → Trigger → Type 0
IsTriggerOf Efce g side (Told set action) = (info : SetInfo) × (slice_get (sets_of side g) set.0 ≡ Some info) × (action < info.actions)
IsTriggerOf Efce g side (Reached set) = ⊥
IsTriggerOf Efce g side Start = ⊥
IsTriggerOf Efcce g side (Told set action) = ⊥
IsTriggerOf Efcce g side (Reached set) = set.0 < length (sets_of side g)
IsTriggerOf Efcce g side Start = ⊥
IsTriggerOf Nfcce g side (Told set action) = ⊥
IsTriggerOf Nfcce g side (Reached set) = ⊥
IsTriggerOf Nfcce g side Start = Unit {0}

-- whether a recommended plan meets a trigger
abbrev pub meets : Side → GameView → Trigger → List (Option ℕ) → Bool
meets side g (Told set action) plan = leads side g plan set.0 && names action (slice_get plan set.0)
meets side g (Reached set) plan = leads side g plan set.0
meets side g Start plan = true

-- the plan of a player who leaves at a trigger for a full choice: no recommendation is looked at from there on
abbrev pub left_for : Side → GameView → Trigger → List ℕ → List (Option ℕ) → List (Option ℕ)
left_for side g (Told set action) choice plan = graft side g set.0 choice plan
left_for side g (Reached set) choice plan = graft side g set.0 choice plan
left_for side g Start choice plan = replaced choice plan

-- the plan that is played where one is recommended to a player who leaves at a trigger for a full choice
abbrev pub deviated : Side → GameView → Trigger → List ℕ → List (Option ℕ) → List (Option ℕ)
deviated side g trigger choice plan = cond (meets side g trigger plan) (left_for side g trigger choice plan) plan

-- what a player who leaves so gets in an entry that the other player follows
abbrev pub deviated_pay : Side → GameView → Trigger → List ℕ → Entry → ℤ
deviated_pay One g trigger choice entry = walk One g (deviated One g trigger choice entry.one) entry.two 0
deviated_pay Two g trigger choice entry = walk Two g entry.one (deviated Two g trigger choice entry.two) 0

-- the weighted sum of what a player gets who follows, and of one who leaves
abbrev pub following : Side → GameView → List Entry → ℤ
following side g list = weighted (pay side g) list

abbrev pub leaving : Side → GameView → Trigger → List ℕ → List Entry → ℤ
leaving side g trigger choice list = weighted (deviated_pay side g trigger choice) list
