-- A node's kids, its player and set, and the amounts at a leaf.
use Rattle.std.specs.Prelude.{ℕ, List, [], Option, Some, None, Bool, true, false, cond, ℤ}
use Rattle.corr_game.specs.declared.nodes.Node.{Node}
use Rattle.corr_game.specs.declared.nodes.Node.TheVariants.{Leaf, Chance, Choice}
use Rattle.corr_game.specs.declared.payoffs.Pay.{Pay}
use Rattle.corr_game.specs.declared.sides.Side.{Side}
use Rattle.corr_game.specs.declared.sides.Side.TheVariants.{One, Two}

-- the nodes right below a node, in the order of its actions
abbrev pub kids_of : Node → List ℕ
kids_of (Leaf pay) = []
kids_of (Chance kids) = kids
kids_of (Choice side set kids) = kids

-- whether two players are one
abbrev pub same_side : Side → Side → Bool
same_side One One = true
same_side One Two = false
same_side Two One = false
same_side Two Two = true

-- the set of a choice node of this player; none at any other node
abbrev pub set_at : Side → Node → Option ℕ
set_at side (Leaf pay) = None
set_at side (Chance kids) = None
set_at side (Choice mover set kids) = cond (same_side side mover) (Some set.0) None

-- what a player gets at a leaf
abbrev pub amount_of : Side → Pay → ℤ
amount_of One pay = pay.one
amount_of Two pay = pay.two
