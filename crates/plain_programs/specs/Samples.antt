-- Chicken, and a list of pairs of plans in it, written out.
use Rattle.std.specs.Prelude.{List, [], ◌∷◌, Some, ℕ, ℤ, pos}
use Rattle.corr_game.specs.declared.nodes.Node.{Node}
use Rattle.corr_game.specs.declared.nodes.Node.TheVariants.{Leaf, Choice}
use Rattle.corr_game.specs.declared.sides.Side.TheVariants.{One, Two}
use Rattle.corr_game.specs.Game.{GameView}
use Rattle.equilibrium.specs.Distribution.{Entry}

-- a leaf with these two amounts
abbrev pub leaf : ℤ → ℤ → Node
leaf one two = Leaf (record { one = one; two = two })

-- Chicken, played without seeing: nodes in preorder, each player's set, the scales
unfoldable pub chicken_game : GameView
chicken_game = record {
  nodes = Choice One (record { 0 = 0 }) (1 ∷ 4 ∷ [])
      ∷ Choice Two (record { 0 = 0 }) (2 ∷ 3 ∷ [])
      ∷ leaf (pos 0) (pos 0)
      ∷ leaf (pos 7) (pos 2)
      ∷ Choice Two (record { 0 = 0 }) (5 ∷ 6 ∷ [])
      ∷ leaf (pos 2) (pos 7)
      ∷ leaf (pos 6) (pos 6)
      ∷ [];
  one = record { file = 1; actions = 2 } ∷ [];
  two = record { file = 1; actions = 2 } ∷ [];
  scale_one = pos 1;
  scale_two = pos 1;
}

-- in Chicken player 1 always chickens out, and player 2 dares once in four times
abbrev pub one_chickens_out : List Entry
one_chickens_out =
    record { one = Some 1 ∷ []; two = Some 0 ∷ []; weight = 1 }
    ∷ record { one = Some 1 ∷ []; two = Some 1 ∷ []; weight = 3 }
    ∷ []
