-- Where a player forgets (von Stengel and Forges 2008): at two nodes of one set with different own sequences.
use Rattle.std.specs.Prelude.{◌≡◌, ℕ, ◌<◌, List, length, Some, slice_get}
use Rattle.corr_game.specs.declared.nodes.SetId.{SetId}
use Rattle.corr_game.specs.declared.sides.Side.{Side}
use Rattle.corr_game.specs.Game.{GameView, sets_of}
use Rattle.tree_recall.specs.declared.recalls.Met.{Met}
use Rattle.tree_recall.specs.declared.recalls.RecallRefusal.{RecallRefusal}
use Rattle.tree_recall.specs.declared.recalls.RecallRefusal.TheVariants.{Forgets, NoMemory}
use Rattle.tree_recall.specs.Tree.{set_of}
use Rattle.tree_recall.specs.OwnSequence.{IsOwnAt}

-- a refusal names one of the player's sets
abbrev pub NamesSet : GameView → RecallRefusal → Type 0
NamesSet g (Forgets side set first second) = set.0 < length (sets_of side g)
NamesSet g NoMemory = Unit {0}

-- a node of a set before which there is none
abbrev pub IsFirstOf : GameView → Side → ℕ → ℕ → Type 0
IsFirstOf g side set first = (set_of g side first ≡ Some set) × ((n : ℕ) → n < first → set_of g side n ≡ Some set → ⊥)

-- a node of a set has another own sequence than the set's first node
abbrev pub IsForgottenAt : GameView → Side → ℕ → ℕ → ℕ → Type 0
IsForgottenAt g side set first second =
    IsFirstOf g side set first × (set_of g side second ≡ Some set) × ((seq : List (SetId × ℕ)) → IsOwnAt g side first seq → IsOwnAt g side second seq → ⊥)

-- no node of this player before this one is such a node
unfoldable pub NoneForgotten : GameView → Side → ℕ → Type 0
NoneForgotten g side before = (set first second : ℕ) → second < before → IsForgottenAt g side set first second → ⊥

-- a refusal of this player tells the least node with another own sequence than the first node of its set
abbrev pub IsLeastOf : Side → GameView → RecallRefusal → Type 0
IsLeastOf side g (Forgets mover set first second) = (mover ≡ side) × IsForgottenAt g side set.0 first second × NoneForgotten g side second
IsLeastOf side g NoMemory = Unit {0}

-- a refusal tells the least such node of either player
abbrev pub IsLeast : GameView → RecallRefusal → Type 0
IsLeast g (Forgets mover set first second) = IsForgottenAt g mover set.0 first second × ((side : Side) → NoneForgotten g side second)
IsLeast g NoMemory = Unit {0}

-- at a node of a set that was met the last move isn't the one kept for the set
abbrev pub IsMismatch : Side → SetId → List Met → Met → RecallRefusal → Type 0
IsMismatch side set met node (Forgets mover named first second) =
    (mover ≡ side) × (named ≡ set) × (second ≡ node.first) × ((known : Met) × (slice_get met set.0 ≡ Some known) × (known.first ≡ first) × (known.last ≡ node.last → ⊥))
IsMismatch side set met node NoMemory = Unit {0}
