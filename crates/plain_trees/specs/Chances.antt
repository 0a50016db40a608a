-- Chance nodes that part a set: how the definition of public chance is broken.
use Rattle.std.specs.Prelude.{◌≡◌, ℕ, List, Some, slice_get}
use Rattle.corr_game.specs.declared.nodes.Node.TheVariants.{Chance}
use Rattle.corr_game.specs.declared.sides.Side.{Side}
use Rattle.corr_game.specs.Game.{GameView}
use Rattle.plain_trees.specs.Remembering.{AreOfOneSet}
use Rattle.triangle_test.specs.PublicChance.{IsAtOrBelow, ShareSet}

-- two nodes are of one set of some player
abbrev pub AreMates : GameView → ℕ → ℕ → Type 0
AreMates g m n = (side : Side) × AreOfOneSet g side m n

-- a node is of a set that has a node at or below another one
abbrev pub HasMateUnder : GameView → ℕ → ℕ → Type 0
HasMateUnder g m top = (n : ℕ) × IsAtOrBelow g top n × AreMates g m n

-- one of these kids is another one than this, and they share a set
abbrev pub PartsFrom : GameView → List ℕ → ℕ → Type 0
PartsFrom g kids kid = (action : ℕ) × (other : ℕ) × (slice_get kids action ≡ Some other) × (kid ≡ other → ⊥) × ShareSet g kid other

-- nature moves at a node, and two different kids of it share a set
abbrev pub PartsSet : GameView → ℕ → Type 0
PartsSet g n =
    (kids : List ℕ) × (action : ℕ) × (kid : ℕ) × (slice_get g.nodes n ≡ Some (Chance kids)) × (slice_get kids action ≡ Some kid)
    × PartsFrom g kids kid
