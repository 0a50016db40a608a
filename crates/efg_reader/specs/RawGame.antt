-- A game as its file says.
use Rattle.std.specs.Prelude.{◌≡◌, ℕ, List, length, map, All, Some, slice_get, pos}
use Rattle.corr_game.specs.declared.nodes.Node.{Node}
use Rattle.corr_game.specs.declared.nodes.Node.TheVariants as node
use Rattle.corr_game.specs.declared.nodes.SetInfo.{SetInfo}
use Rattle.corr_game.specs.declared.sides.Side.{Side}
use Rattle.corr_game.specs.declared.sides.Side.TheVariants.{One, Two}
use Rattle.corr_game.specs.Game.{GameView, IsGame}
pub use Rattle.number_words.specs.Number.{IsLimited, IsProbability}
use Rattle.efg_reader.specs.declared.raw_game.RawNode.{RawNode}
use Rattle.efg_reader.specs.declared.raw_game.Shape.{Shape}
use Rattle.efg_reader.specs.declared.raw_game.Shape.TheVariants as shape

-- the nodes in file order, and the sets of each player
pub record RawGameView : Type 0 where
  pub nodes : List RawNode
  pub one : List SetInfo
  pub two : List SetInfo

-- the sets of a player
abbrev pub raw_sets : Side → RawGameView → List SetInfo
raw_sets One game = game.one
raw_sets Two game = game.two

-- the node of a game that pays nothing
abbrev pub bare_node : Shape → Node
bare_node shape.Leaf = node.Leaf (record { one = pos 0; two = pos 0 })
bare_node (shape.Chance kids probs) = node.Chance kids
bare_node (shape.Choice side set kids) = node.Choice side set kids

abbrev pub bare_nodes : List RawNode → List Node
bare_nodes nodes = map (λ (n : RawNode). bare_node n.shape) nodes

-- the game with this tree and these sets that pays nothing
abbrev pub bare_game : RawGameView → GameView
bare_game game = record { nodes = bare_nodes game.nodes; one = game.one; two = game.two; scale_one = pos 1; scale_two = pos 1 }

-- a chance node has one probability a kid
abbrev pub HasProbabilities : Shape → Type 0
HasProbabilities shape.Leaf = Unit {0}
HasProbabilities (shape.Chance kids probs) = (length probs ≡ length kids) × All IsProbability probs
HasProbabilities (shape.Choice side set kids) = Unit {0}

-- the tree is that of a game, chance nodes have probabilities, and payoffs are within the limits
pub record IsRawGame (game : RawGameView) : Type 0 where
  pub tree : IsGame (bare_game game)
  pub probabilities : (n : ℕ) (node : RawNode) → slice_get game.nodes n ≡ Some node → HasProbabilities node.shape
  pub payoffs : (n : ℕ) (node : RawNode) → slice_get game.nodes n ≡ Some node → IsLimited node.one × IsLimited node.two
