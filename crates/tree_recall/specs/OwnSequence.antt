-- A player's own sequence at a node: the own moves on the path to it (von Stengel and Forges 2008).
use Rattle.std.specs.Prelude.{◌≡◌, ℕ, List, [], ◌∷◌, Option, Some, None}
use Rattle.corr_game.specs.declared.nodes.SetId.{SetId}
use Rattle.corr_game.specs.declared.sides.Side.{Side}
use Rattle.corr_game.specs.Game.{GameView}
use Rattle.tree_recall.specs.Tree.{set_of, kid_of}

-- the own moves on the path to a node, the latest first: none at the root, one more at a kid of an own node, and as many
-- as its parent has at any other kid
pub data IsOwnAt (g : GameView) (side : Side) : ℕ → List (SetId × ℕ) → Type 0 where
  at_root : IsOwnAt g side 0 []
  own_move : (m action n : ℕ) (set : SetId) (seq : List (SetId × ℕ)) → IsOwnAt g side m seq → set_of g side m ≡ Some set.0 → kid_of g m action ≡ Some n → IsOwnAt g side n ((set, action) ∷ seq)
  other_move : (m action n : ℕ) (seq : List (SetId × ℕ)) → IsOwnAt g side m seq → set_of g side m ≡ None → kid_of g m action ≡ Some n → IsOwnAt g side n seq

-- the latest of such moves
abbrev pub latest : List (SetId × ℕ) → Option (SetId × ℕ)
latest [] = None
latest (move ∷ before) = Some move

-- the last own move on the path to a node
abbrev pub IsLastAt : GameView → Side → ℕ → Option (SetId × ℕ) → Type 0
IsLastAt g side n last = (seq : List (SetId × ℕ)) × IsOwnAt g side n seq × (latest seq ≡ last)

-- perfect recall of a player: all nodes of a set have the same own sequence
unfoldable pub HasRecall : GameView → Side → Type 0
HasRecall g side = (m n set : ℕ) (a b : List (SetId × ℕ)) → set_of g side m ≡ Some set → set_of g side n ≡ Some set → IsOwnAt g side m a → IsOwnAt g side n b → a ≡ b
