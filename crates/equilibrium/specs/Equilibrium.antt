-- Equilibrium lists: distributions that no trigger's player improves by more than a slack (von Stengel and Forges 2008; Farina, Bianchi
-- and Sandholm 2020; with a slack, approximate equilibrium).
use Rattle.std.specs.Prelude.{ℕ, List, All, pos, ◌+ℤ◌, ◌*ℤ◌, ◌≤ℤ◌, ◌<ℤ◌}
use Rattle.corr_game.specs.declared.notions.Notion.{Notion}
use Rattle.corr_game.specs.declared.sides.Side.{Side}
use Rattle.corr_game.specs.Game.{GameView, scale_of}
use Rattle.equilibrium.specs.declared.triggers.Trigger.{Trigger}
use Rattle.equilibrium.specs.Deviation.{IsTriggerOf, following, leaving}
use Rattle.equilibrium.specs.Distribution.{Entry, IsEntry, total}
use Rattle.equilibrium.specs.FullChoice.{IsFullChoice}

-- how much a deviation may gain: a fraction in the file's units of payoff
pub record Slack : Type 0 where
  pub num : ℕ
  pub den : ℕ

-- no gain at all
abbrev pub no_slack : Slack
no_slack = record { num = 0; den = 1 }

-- leaving at a trigger for a full choice gains at most the slack: both sides times its denominator, the player's scale and the total
abbrev pub GainsNoMore : Side → GameView → Slack → List Entry → Trigger → List ℕ → Type 0
GainsNoMore side g slack list trigger choice =
    (pos slack.den *ℤ leaving side g trigger choice list) ≤ℤ
    (pos slack.den *ℤ following side g list +ℤ pos slack.num *ℤ scale_of side g *ℤ total list)

-- no trigger of a player improves
abbrev pub NoneImproves : Notion → Side → GameView → Slack → List Entry → Type 0
NoneImproves notion side g slack list =
    (trigger : Trigger) (choice : List ℕ) → IsTriggerOf notion g side trigger → IsFullChoice side g choice
    → GainsNoMore side g slack list trigger choice

-- entries with a total above 0, of which no trigger of either player improves
pub record IsEquilibriumList (notion : Notion) (g : GameView) (slack : Slack) (list : List Entry) : Type 0 where
  pub entries : All (IsEntry g) list
  pub some_weight : pos 0 <ℤ total list
  pub none_improves : (side : Side) → NoneImproves notion side g slack list
