-- Nodes that lie on one path with nodes of a set.
use Rattle.std.specs.Prelude.{◌≡◌, ◌⊎◌, ℕ, Some}
use Rattle.corr_game.specs.declared.sides.Side.TheVariants.{Two}
use Rattle.corr_game.specs.Game.{GameView}
use Rattle.tree_recall.specs.Tree.{IsAbove, set_of}

-- a node is above or below some node of a set of player 2
abbrev pub IsMetFrom : GameView → ℕ → ℕ → Type 0
IsMetFrom g m two = (n : ℕ) × (set_of g Two n ≡ Some two) × (IsAbove g m n ⊎ IsAbove g n m)
