-- The last own move before a set: a set and the action taken there, or none at the start of play.
use Rattle.std.specs.Prelude.{◌≡◌, ℕ, ◌<◌, List, length, Option, Some, None, slice_get, slice_index, ◌⊎◌, ◌↔◌}
use Rattle.corr_game.specs.declared.nodes.SetId.{SetId}
use Rattle.corr_game.specs.declared.nodes.SetInfo.{SetInfo}
use Rattle.corr_game.specs.declared.sides.Side.{Side}
use Rattle.corr_game.specs.declared.sides.Side.TheVariants.{One, Two}
use Rattle.corr_game.specs.Game.{GameView, sets_of}
use Rattle.tree_recall.specs.Tree.{set_of}
use Rattle.tree_recall.specs.OwnSequence.{IsLastAt, HasRecall}

-- the last own move before each set, for each player
pub record RecalledView : Type 0 where
  pub one : List (Option (SetId × ℕ))
  pub two : List (Option (SetId × ℕ))

-- those of a player
abbrev pub moves_of : Side → RecalledView → List (Option (SetId × ℕ))
moves_of One r = r.one
moves_of Two r = r.two

-- a move is at a set below `bound` and takes one of that set's actions
abbrev pub IsMoveBelow : ℕ → List SetInfo → Option (SetId × ℕ) → Type 0
IsMoveBelow bound sets None = Unit {0}
IsMoveBelow bound sets (Some move) = (move.0.0 < bound) × ((info : SetInfo) → slice_get sets move.0.0 ≡ Some info → move.1 < info.actions)

-- the last move before each set is at a set of smaller number
abbrev pub AreEarlier : List SetInfo → List (Option (SetId × ℕ)) → Type 0
AreEarlier sets moves = (set : ℕ) (last : Option (SetId × ℕ)) → slice_get moves set ≡ Some last → IsMoveBelow set sets last

-- what the first `count` kids of a node are given, by action, each has; any other node has what it had
abbrev pub IsHandedOn : {X : Type 0} → List ℕ → (ℕ → X) → ℕ → ℕ → X → X → Type 0
IsHandedOn kids given count n old new =
    ((action : ℕ) × (action < count) × (slice_index kids action ≡ n) × (new ≡ given action))
    ⊎ (((action : ℕ) → action < count → slice_index kids action ≡ n → ⊥) × (new ≡ old))

-- these are the last own moves at the nodes of each set, whichever of the set's nodes is looked at
unfoldable pub AreOfTree : Side → GameView → List (Option (SetId × ℕ)) → Type 0
AreOfTree side g moves = (n set : ℕ) (last : Option (SetId × ℕ)) → set_of g side n ≡ Some set → (slice_get moves set ≡ Some last) ↔ IsLastAt g side n last

-- one last move per set of each player, each at a set before; it is the last own move at each of the set's nodes, and
-- both players have perfect recall
pub record IsRecallOf (g : GameView) (r : RecalledView) : Type 0 where
  pub per_set : (side : Side) → length (moves_of side r) ≡ length (sets_of side g)
  pub earlier : (side : Side) → AreEarlier (sets_of side g) (moves_of side r)
  pub of_tree : (side : Side) → AreOfTree side g (moves_of side r)
  pub perfect : (side : Side) → HasRecall g side
