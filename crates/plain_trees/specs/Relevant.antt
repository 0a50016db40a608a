-- Relevant pairs of sequences (von Stengel and Forges 2008), in the words of the tree.
use Rattle.std.specs.Prelude.{ℕ, List, [], ◌∷◌}
use Rattle.corr_game.specs.declared.nodes.SetId.{SetId}
use Rattle.corr_game.specs.Game.{GameView}
use Rattle.connected_pairs.specs.Table.{AreConnected}

-- of a sequence of player 1 and one of player 2, each the latest move first, one is empty or their last sets are connected
abbrev pub AreRelevant : GameView → List (SetId × ℕ) → List (SetId × ℕ) → Type 0
AreRelevant g [] two = Unit {0}
AreRelevant g (one ∷ before) [] = Unit {0}
AreRelevant g (one ∷ before) (two ∷ earlier) = AreConnected g one.0.0 two.0.0
