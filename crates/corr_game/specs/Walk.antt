-- What a pair of plans pays: the walk from a node down the tree.
use Rattle.std.specs.Prelude.{ℕ, List, [], ◌∷◌, Option, Some, None, slice_get, ℤ, pos, ◌+ℤ◌}
use Rattle.corr_game.specs.declared.nodes.Node.{Node}
use Rattle.corr_game.specs.declared.nodes.Node.TheVariants.{Leaf, Chance, Choice}
use Rattle.corr_game.specs.declared.sides.Side.{Side}
use Rattle.corr_game.specs.Game.{GameView}
use Rattle.corr_game.specs.Node.{amount_of}
use Rattle.corr_game.specs.Plan.{plan_of}
use Rattle.corr_game.specs.Preorder.{from_last}

-- the sum over kids
abbrev pub total : (ℕ → ℤ) → List ℕ → ℤ
total paid [] = pos 0
total paid (kid ∷ kids) = paid kid +ℤ total paid kids

-- a kid, if there is one, and 0 else
abbrev pub paid_at : (ℕ → ℤ) → Option ℕ → ℤ
paid_at paid None = pos 0
paid_at paid (Some kid) = paid kid

-- the kid that a plan's entry names, and 0 where it names none
abbrev pub named : (ℕ → ℤ) → List ℕ → Option (Option ℕ) → ℤ
named paid kids None = pos 0
named paid kids (Some None) = pos 0
named paid kids (Some (Some action)) = paid_at paid (slice_get kids action)

-- a leaf gives its amount, a chance node the sum over its kids, a choice node the kid that the mover's plan names
abbrev pub step : Side → List (Option ℕ) → List (Option ℕ) → Node → (ℕ → ℤ) → ℤ
step side one two (Leaf pay) paid = amount_of side pay
step side one two (Chance kids) paid = total paid kids
step side one two (Choice mover set kids) paid = named paid kids (slice_get (plan_of mover one two) set.0)

-- what the walk from node n gives a player
unfoldable pub walk : Side → GameView → List (Option ℕ) → List (Option ℕ) → ℕ → ℤ
walk side g one two = from_last (λ n node paid. step side one two node paid) (pos 0) 0 g.nodes
