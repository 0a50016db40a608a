-- A set below another one, in the words of the tree (von Stengel and Forges 2008).
use Rattle.std.specs.Prelude.{◌≡◌, ℕ, Some}
use Rattle.corr_game.specs.declared.sides.Side.{Side}
use Rattle.corr_game.specs.Game.{GameView}
use Rattle.tree_recall.specs.Tree.{IsAbove, set_of}

-- some node of a set is above some node of another one
abbrev pub HasNodeAbove : Side → GameView → ℕ → ℕ → Type 0
HasNodeAbove side g above set = (m : ℕ) × (n : ℕ) × (set_of g side m ≡ Some above) × (set_of g side n ≡ Some set) × IsAbove g m n
