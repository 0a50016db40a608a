-- What no full choice gains, trigger by trigger (von Stengel and Forges 2008; Farina, Bianchi and Sandholm 2020).
use Rattle.std.specs.Prelude.{◌≡◌, ℕ, List, All, Some}
use Rattle.corr_game.specs.declared.notions.Notion.{Notion}
use Rattle.corr_game.specs.declared.plans.Pair.{Pair}
use Rattle.corr_game.specs.declared.sides.Side.{Side}
use Rattle.corr_game.specs.Game.{GameView, IsGame}
use Rattle.connected_pairs.specs.Connected.{IsPairs, PairsView}
use Rattle.equilibrium.specs.declared.triggers.Trigger.{Trigger as Deviation}
use Rattle.equilibrium.specs.Deviation.{IsTriggerOf}
use Rattle.equilibrium.specs.Distribution.{Entry, IsEntry, entries_of}
use Rattle.equilibrium.specs.Equilibrium.{GainsNoMore, no_slack}
use Rattle.equilibrium.specs.FullChoice.{IsFullChoice}
use Rattle.equilibrium_solutions.specs.Values.{top_of}
use Rattle.report_form.specs.Ranges.{IsPair}

-- no full choice gains at a trigger
abbrev pub NoneGains : Side → GameView → List Entry → Deviation → Type 0
NoneGains side g list left = (choice : List ℕ) → IsFullChoice side g choice → GainsNoMore side g no_slack list left choice

-- nor at any trigger of a notion at a set
abbrev pub NoneGainsAt : Notion → Side → GameView → List Entry → ℕ → Type 0
NoneGainsAt notion side g list set =
    (left : Deviation) → IsTriggerOf notion g side left → top_of left ≡ Some record { 0 = set } → NoneGains side g list left

-- a game, its pairs of sequences, and a list of pairs of reduced plans whose weights are 1 or more
pub record AreGiven (g : GameView) (p : PairsView) (list : List Pair) : Type 0 where
  pub rules : IsGame g
  pub pairs : IsPairs p
  pub entries : All (IsEntry g) (entries_of list)
  pub ranges : All IsPair list
