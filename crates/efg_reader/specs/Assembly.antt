-- The nodes of a tree, from what happens at each and how many kids it has, in preorder.
use Rattle.std.specs.Prelude.{ℕ, ◌+◌, List, [], ◌∷◌, take, drop}
use Rattle.efg_reader.specs.declared.events.Bare.{Bare}
use Rattle.efg_reader.specs.declared.events.Event.{Event}
use Rattle.efg_reader.specs.declared.events.Event.TheVariants as event
use Rattle.efg_reader.specs.declared.raw_game.RawNode.{RawNode}
use Rattle.efg_reader.specs.declared.raw_game.Shape.{Shape}
use Rattle.efg_reader.specs.declared.raw_game.Shape.TheVariants as shape

-- what happens at a node, with its kids
abbrev pub shape_with : Event → List ℕ → Shape
shape_with event.Leaf kids = shape.Leaf
shape_with (event.Chance probs) kids = shape.Chance kids probs
shape_with (event.Choice side set) kids = shape.Choice side set kids

-- a node with its kids
abbrev pub node_with : Bare → List ℕ → RawNode
node_with bare kids = record { shape = shape_with bare.event kids; one = bare.one; two = bare.two }

-- From the last node to the first: the nodes with their kids, and where the subtrees begin that stand in a row. A
-- node's kids are the first of the subtrees behind it. The first node of the list has the number `at`.
unfoldable pub assembled : ℕ → List Bare → List RawNode × List ℕ
assembled at [] = ([], [])
assembled at (bare ∷ rest) =
    let behind = assembled (at + 1) rest in
    (node_with bare (take bare.kids behind.1) ∷ behind.0, at ∷ drop bare.kids behind.1)
