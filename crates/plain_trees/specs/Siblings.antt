-- Nodes with one own sequence.
use Rattle.std.specs.Prelude.{◌≡◌, ℕ, List, Some}
use Rattle.corr_game.specs.declared.nodes.SetId.{SetId}
use Rattle.corr_game.specs.declared.sides.Side.{Side}
use Rattle.corr_game.specs.Game.{GameView}
use Rattle.tree_recall.specs.OwnSequence.{IsOwnAt}
use Rattle.tree_recall.specs.Tree.{set_of}

-- two nodes have one own sequence
abbrev pub HaveOwnAlike : GameView → Side → ℕ → ℕ → Type 0
HaveOwnAlike g side m n = (seq : List (SetId × ℕ)) × IsOwnAt g side m seq × IsOwnAt g side n seq

-- a node has the own sequence of some node of a set
abbrev pub HasSequenceOf : GameView → Side → ℕ → ℕ → Type 0
HasSequenceOf g side m set = (n : ℕ) × (set_of g side n ≡ Some set) × HaveOwnAlike g side m n
