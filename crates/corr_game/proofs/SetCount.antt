-- There are at most as many sets as nodes: each node meets at most one new set.
use Rattle.std.proofs.Common.{ℕ, ◌+◌, ◌≤◌, List, [], ◌∷◌, Option, Some, None, length, arith}
use Rattle.corr_game.specs.declared.nodes.Node.{Node}
use Rattle.corr_game.specs.declared.sides.Side.{Side}
use Rattle.corr_game.specs.Node.{set_at}
use Rattle.corr_game.specs.Sets.{AreInOrder, IsMetOrNext, met_with}

met_with-at_most : (met : ℕ) (set : Option ℕ) → IsMetOrNext met set → met_with met set ≤ met + 1
met_with-at_most met None h = omega arith
met_with-at_most met (Some set) h = omega arith

pub count_at_most : (side : Side) (met : ℕ) (nodes : List Node) (count : ℕ) → AreInOrder side met nodes count → count ≤ met + length nodes
unfolding AreInOrder
count_at_most side met [] count h = omega arith
count_at_most side met (node ∷ rest) count h =
    omega (arith, met_with-at_most met (set_at side node) h.0, count_at_most side (met_with met (set_at side node)) rest count h.1)
