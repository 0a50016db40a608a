-- A triangle of information sets (Farina and Sandholm 2020), with own sequences and connection read off the tree.
use Rattle.std.specs.Prelude.{◌≡◌, ◌⊎◌, ◌<◌, ℕ, List, [], ◌∷◌, Some}
use Rattle.corr_game.specs.declared.nodes.SetId.{SetId}
use Rattle.corr_game.specs.declared.sides.Side.{Side}
use Rattle.corr_game.specs.declared.sides.Side.TheVariants.{One, Two}
use Rattle.corr_game.specs.Game.{GameView}
use Rattle.tree_recall.specs.OwnSequence.{IsOwnAt}
use Rattle.tree_recall.specs.Tree.{set_of}
use Rattle.connected_pairs.specs.Table.{AreConnected}
use Rattle.triangle_test.specs.declared.triangles.Quad.{Quad}

-- the player's own sequence is the same at some node of one set and some node of another
abbrev pub HaveOneSequence : GameView → Side → ℕ → ℕ → Type 0
HaveOneSequence g side a b =
    (m : ℕ) × (n : ℕ) × (seq : List (SetId × ℕ)) × (set_of g side m ≡ Some a) × (set_of g side n ≡ Some b)
    × IsOwnAt g side m seq × IsOwnAt g side n seq

-- two sets of a player are different and have one own sequence
abbrev pub AreTreeSiblings : GameView → Side → ℕ → ℕ → Type 0
AreTreeSiblings g side a b = (a ≡ b → ⊥) × HaveOneSequence g side a b

-- two siblings of each player, of which the first are connected, the second are, and player 1's first is with player
-- 2's second
pub record IsTreeTriangle (g : GameView) (q : Quad) : Type 0 where
  pub one : AreTreeSiblings g One q.one_a.0 q.one_b.0
  pub two : AreTreeSiblings g Two q.two_a.0 q.two_b.0
  pub first : AreConnected g q.one_a.0 q.two_a.0
  pub second : AreConnected g q.one_b.0 q.two_b.0
  pub across : AreConnected g q.one_a.0 q.two_b.0

-- there is no triangle in the tree
abbrev pub HasNoTreeTriangle : GameView → Type 0
HasNoTreeTriangle g = (quad : Quad) → IsTreeTriangle g quad → ⊥

-- the numbers of its sets
abbrev pub numbers : Quad → List ℕ
numbers q = q.one_a.0 ∷ q.one_b.0 ∷ q.two_a.0 ∷ q.two_b.0 ∷ []

-- of the first numbers that differ, that of one list is smaller than that of another
abbrev pub ComesBefore : List ℕ → List ℕ → Type 0
ComesBefore [] ys = ⊥
ComesBefore (x ∷ xs) [] = ⊥
ComesBefore (x ∷ xs) (y ∷ ys) = (x < y) ⊎ ((x ≡ y) × ComesBefore xs ys)

-- a triangle before which there is none
pub record IsLeastTreeTriangle (g : GameView) (q : Quad) : Type 0 where
  pub triangle : IsTreeTriangle g q
  pub none_before : (r : Quad) → ComesBefore (numbers r) (numbers q) → IsTreeTriangle g r → ⊥
