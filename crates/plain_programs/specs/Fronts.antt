-- The first actions of full choices, and what leaving for a full choice gains that begins with them.
use Rattle.std.specs.Prelude.{◌≡◌, ℕ, ◌<◌, ◌≤◌, List, length, ◌++◌, Some, slice_get}
use Rattle.corr_game.specs.declared.nodes.SetInfo.{SetInfo}
use Rattle.corr_game.specs.declared.sides.Side.{Side}
use Rattle.corr_game.specs.Game.{GameView, sets_of}
use Rattle.equilibrium.specs.declared.triggers.Trigger.{Trigger}
use Rattle.equilibrium.specs.Distribution.{Entry}
use Rattle.equilibrium.specs.Equilibrium.{GainsNoMore, Slack}
use Rattle.equilibrium.specs.FullChoice.{IsFullChoice}

-- an action at each of a player's first sets
pub record IsFront (side : Side) (g : GameView) (front : List ℕ) : Type 0 where
  pub few : length front ≤ length (sets_of side g)
  pub in_range : (set action : ℕ) (info : SetInfo) → slice_get front set ≡ Some action
      → slice_get (sets_of side g) set ≡ Some info → action < info.actions

-- leaving at a trigger gains at most the slack for each full choice that begins so
abbrev pub NoneGains : Side → GameView → Slack → List Entry → Trigger → List ℕ → Type 0
NoneGains side g slack list trigger front =
    (rest : List ℕ) → IsFullChoice side g (front ++ rest) → GainsNoMore side g slack list trigger (front ++ rest)
