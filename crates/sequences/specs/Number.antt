-- Sequences of one player by number (von Stengel 1996): 0 is the empty one; then, by set and by action, a set's own
-- sequence followed by a move there.
use Rattle.std.specs.Prelude.{◌≡◌, ℕ, ◌+◌, ◌<◌, ◌≤◌, zero, suc, List, length, take, sum_by, Option, Some, None, slice_get, ◌⊎◌}
use Rattle.corr_game.specs.declared.nodes.SetId.{SetId}
use Rattle.corr_game.specs.declared.nodes.SetInfo.{SetInfo}
use Rattle.corr_game.specs.declared.sides.Side.{Side}
use Rattle.corr_game.specs.declared.sides.Side.TheVariants.{One, Two}
use Rattle.corr_game.specs.Game.{GameView, sets_of}
use Rattle.tree_recall.specs.Tree.{set_of}
use Rattle.tree_recall.specs.OwnSequence.{IsLastAt}
use Rattle.sequences.specs.declared.places.Place.{Place}

-- the place of each set, the last move of each sequence but the empty one, and the sequence of each node
pub record SideView : Type 0 where
  pub places : List Place
  pub lasts : List (SetId × ℕ)
  pub nodes : List ℕ

-- both players' sequences
pub record SeqsView : Type 0 where
  pub one : SideView
  pub two : SideView

-- those of a player
abbrev pub side_of : Side → SeqsView → SideView
side_of One s = s.one
side_of Two s = s.two

-- how many sequences a player has
abbrev pub count_of : SideView → ℕ
count_of v = length v.lasts + 1

-- the last move of a sequence; the empty one has none
abbrev pub last_of : SideView → ℕ → Option (SetId × ℕ)
last_of v zero = None
last_of v (suc k) = slice_get v.lasts k

-- a sequence's number is that of its last move, counted from its set's first
abbrev pub Ends : List Place → SetId × ℕ → ℕ → Type 0
Ends places move seq = (place : Place) × (slice_get places move.0.0 ≡ Some place) × (move.1 < place.actions) × (place.first + move.1 ≡ seq)

-- a move takes one of its set's actions
abbrev pub IsAt : List Place → SetId × ℕ → Type 0
IsAt places move = (place : Place) × (slice_get places move.0.0 ≡ Some place) × (move.1 < place.actions)

-- the number of a set's own sequence
abbrev pub IsOwn : SideView → ℕ → ℕ → Type 0
IsOwn v set own = (place : Place) × (slice_get v.places set ≡ Some place) × (place.own ≡ own)

-- a set's own sequence has a smaller number than those that end at it; every sequence but 0 ends with its move, and no
-- other sequence ends with that move
pub record IsNumbered (places : List Place) (lasts : List (SetId × ℕ)) : Type 0 where
  pub own_before : (set : ℕ) (place : Place) → slice_get places set ≡ Some place → place.own < place.first
  pub in_range : (set : ℕ) (place : Place) → slice_get places set ≡ Some place → place.first + place.actions ≤ length lasts + 1
  pub each_last : (k : ℕ) (move : SetId × ℕ) → slice_get lasts k ≡ Some move → Ends places move (k + 1)
  pub each_move : (move : SetId × ℕ) (k : ℕ) → Ends places move (k + 1) → slice_get lasts k ≡ Some move

-- a last move is none, or one at a place and with a number below 4096
abbrev pub IsTaken : List Place → Option (SetId × ℕ) → Type 0
IsTaken places None = Unit {0}
IsTaken places (Some move) = (place : Place) × (slice_get places move.0.0 ≡ Some place) × (move.1 < place.actions) × (place.first + place.actions ≤ 4096)

-- the number of the sequence with this last move
abbrev pub HasNumber : List Place → Option (SetId × ℕ) → ℕ → Type 0
HasNumber places None seq = seq ≡ 0
HasNumber places (Some move) seq = Ends places move seq

-- one place per set, with as many actions
abbrev pub SameActions : List SetInfo → List Place → Type 0
SameActions sets places = (set : ℕ) (place : Place) (info : SetInfo) → slice_get places set ≡ Some place → slice_get sets set ≡ Some info → place.actions ≡ info.actions

-- how many sequences end at the sets before this one: one for each of their actions
abbrev pub ends_before : List SetInfo → ℕ → ℕ
ends_before sets set = sum_by (λ (info : SetInfo). info.actions) (take set sets)

-- the sequences that end at a set follow the empty one and those that end at the sets before
abbrev pub AreInTurn : List SetInfo → List Place → Type 0
AreInTurn sets places = (set : ℕ) (place : Place) → slice_get places set ≡ Some place → place.first ≡ ends_before sets set + 1

-- the places and last moves of these sets' sequences
pub record IsNumberingOf (sets : List SetInfo) (places : List Place) (lasts : List (SetId × ℕ)) : Type 0 where
  pub numbered : IsNumbered places lasts
  pub few : length lasts < 4096
  pub per_set : length places ≡ length sets
  pub same_actions : SameActions sets places
  pub in_turn : AreInTurn sets places

-- the rules of one player's numbers
pub record IsSide (v : SideView) : Type 0 where
  pub numbered : IsNumbered v.places v.lasts
  pub few : length v.lasts < 4096
  pub each_node : (n seq : ℕ) → slice_get v.nodes n ≡ Some seq → seq ≤ length v.lasts

-- at each node the number of the sequence with the last own move there
unfoldable pub AreAtNodes : Side → GameView → List Place → List ℕ → Type 0
AreAtNodes side g places nodes = (n seq : ℕ) (last : Option (SetId × ℕ)) → slice_get nodes n ≡ Some seq → IsLastAt g side n last → HasNumber places last seq

-- a set's own sequence is the one with the last own move at each of its nodes
unfoldable pub AreOwn : Side → GameView → List Place → Type 0
AreOwn side g places = (n set : ℕ) (place : Place) (last : Option (SetId × ℕ)) → set_of g side n ≡ Some set → slice_get places set ≡ Some place → IsLastAt g side n last → HasNumber places last place.own

-- one place per set, with as many actions, set by set, and one sequence per node; each is that of the last own move in the
-- tree
pub record IsSideOf (side : Side) (g : GameView) (v : SideView) : Type 0 where
  pub per_set : length v.places ≡ length (sets_of side g)
  pub same_actions : SameActions (sets_of side g) v.places
  pub in_turn : AreInTurn (sets_of side g) v.places
  pub per_node : length v.nodes ≡ length g.nodes
  pub at_nodes : AreAtNodes side g v.places v.nodes
  pub own_of_tree : AreOwn side g v.places

-- the numbers are those of a game's sequences
pub record IsSeqsOf (g : GameView) (s : SeqsView) : Type 0 where
  pub sides : (side : Side) → IsSideOf side g (side_of side s)

-- a sequence holds a choice at this set
pub data Holds (v : SideView) (above : ℕ) : ℕ → Type 0 where
  last : (seq : ℕ) (move : SetId × ℕ) → last_of v seq ≡ Some move → move.0.0 ≡ above → Holds v above seq
  before : (seq : ℕ) (move : SetId × ℕ) (place : Place) → last_of v seq ≡ Some move → slice_get v.places move.0.0 ≡ Some place → Holds v above place.own → Holds v above seq

-- a set is `above`, or its own sequence holds a choice there
abbrev pub IsUnder : SideView → ℕ → ℕ → Type 0
IsUnder v set above = (set ≡ above) ⊎ ((place : Place) × (slice_get v.places set ≡ Some place) × Holds v above place.own)

-- a plan names every choice of a sequence
pub data Plays (v : SideView) (plan : List (Option ℕ)) : ℕ → Type 0 where
  nothing : Plays v plan 0
  further : (seq : ℕ) (move : SetId × ℕ) (place : Place) → last_of v seq ≡ Some move → slice_get plan move.0.0 ≡ Some (Some move.1) → slice_get v.places move.0.0 ≡ Some place → Plays v plan place.own → Plays v plan seq
