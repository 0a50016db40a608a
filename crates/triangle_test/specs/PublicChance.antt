-- Public chance moves (Farina and Sandholm 2020): what nature draws, both players see.
use Rattle.std.specs.Prelude.{◌≡◌, ◌⊎◌, ℕ, List, Some, slice_get}
use Rattle.corr_game.specs.declared.nodes.Node.TheVariants.{Chance}
use Rattle.corr_game.specs.declared.sides.Side.{Side}
use Rattle.corr_game.specs.Game.{GameView}
use Rattle.tree_recall.specs.Tree.{IsAbove, kid_of, set_of}

-- nature moves at this node
abbrev pub IsChance : GameView → ℕ → Type 0
IsChance g n = (kids : List ℕ) × (slice_get g.nodes n ≡ Some (Chance kids))

-- a node is this one or below it
abbrev pub IsAtOrBelow : GameView → ℕ → ℕ → Type 0
IsAtOrBelow g top n = (top ≡ n) ⊎ IsAbove g top n

-- a set of some player has a node at or below one of two nodes and a node at or below the other
abbrev pub ShareSet : GameView → ℕ → ℕ → Type 0
ShareSet g a b =
    (side : Side) × (m : ℕ) × (n : ℕ) × (set : ℕ) × (set_of g side m ≡ Some set) × (set_of g side n ≡ Some set)
    × IsAtOrBelow g a m × IsAtOrBelow g b n

-- no set has nodes at or below two different kids of one chance node
unfoldable pub IsPublicChance : GameView → Type 0
IsPublicChance g =
    (chance i j a b : ℕ) → IsChance g chance → kid_of g chance i ≡ Some a → kid_of g chance j ≡ Some b
    → (a ≡ b → ⊥) → ShareSet g a b → ⊥
