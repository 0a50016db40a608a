-- A plan that plays a set's own sequence (von Stengel and Forges 2008), in the words of the tree.
use Rattle.std.specs.Prelude.{◌≡◌, ℕ, List, [], ◌∷◌, Option, Some, slice_get}
use Rattle.corr_game.specs.declared.nodes.SetId.{SetId}
use Rattle.corr_game.specs.declared.sides.Side.{Side}
use Rattle.corr_game.specs.Game.{GameView}
use Rattle.tree_recall.specs.OwnSequence.{IsOwnAt}
use Rattle.tree_recall.specs.Tree.{set_of}

-- a plan names each move of a sequence
abbrev pub PlaysMoves : List (Option ℕ) → List (SetId × ℕ) → Type 0
PlaysMoves plan [] = Unit {0}
PlaysMoves plan (move ∷ moves) = (slice_get plan move.0.0 ≡ Some (Some move.1)) × PlaysMoves plan moves

-- a plan plays the own sequence of some node of a set
abbrev pub PlaysOwn : Side → GameView → List (Option ℕ) → ℕ → Type 0
PlaysOwn side g plan set = (n : ℕ) × (seq : List (SetId × ℕ)) × (set_of g side n ≡ Some set) × IsOwnAt g side n seq × PlaysMoves plan seq
