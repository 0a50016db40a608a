-- Perfect recall, at two nodes.
use Rattle.std.specs.Prelude.{◌≡◌, ℕ, List, ◌++◌, Some}
use Rattle.corr_game.specs.declared.nodes.SetId.{SetId}
use Rattle.corr_game.specs.declared.sides.Side.{Side}
use Rattle.corr_game.specs.Game.{GameView}
use Rattle.tree_recall.specs.OwnSequence.{IsOwnAt}
use Rattle.tree_recall.specs.Tree.{kid_of, set_of}

-- two nodes are of one set
abbrev pub AreOfOneSet : GameView → Side → ℕ → ℕ → Type 0
AreOfOneSet g side m n = (set : ℕ) × (set_of g side m ≡ Some set) × (set_of g side n ≡ Some set)

-- two nodes, if they are of one set, have one own sequence
abbrev pub AreAlikeAt : GameView → Side → ℕ → ℕ → Type 0
AreAlikeAt g side m n =
    (a b : List (SetId × ℕ)) → AreOfOneSet g side m n → IsOwnAt g side m a → IsOwnAt g side n b → a ≡ b

-- going up a step from a kid, the own moves of `new` are those of `old` and behind them the step's, if it is an own one
abbrev pub IsAdded : GameView → Side → ℕ → ℕ → List (SetId × ℕ) → List (SetId × ℕ) → Type 0
IsAdded g side from action old new =
    (kid : ℕ) (rest : List (SetId × ℕ)) → kid_of g from action ≡ Some kid → IsOwnAt g side from rest
    → (more : List (SetId × ℕ)) × IsOwnAt g side kid more × (new ++ rest ≡ old ++ more)
