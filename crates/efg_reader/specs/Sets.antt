-- The sets of a player or of chance, by their first lists.
use Rattle.std.specs.Prelude.{◌≡◌, ℕ, ◌<◌, ◌^◌, List, [], ◌∷◌, ◌++◌, length, map, All, Option, Some, slice_get}
use Rattle.corr_game.specs.declared.nodes.Node.{Node}
use Rattle.corr_game.specs.declared.nodes.SetInfo.{SetInfo}
use Rattle.corr_game.specs.declared.sides.Side.{Side}
use Rattle.corr_game.specs.Node.{set_at}
use Rattle.corr_game.specs.Sets.{AreInOrder}
use Rattle.efg_reader.specs.Assembly.{shape_with}
use Rattle.number_words.specs.Number.{IsPart}
use Rattle.efg_reader.specs.RawGame.{bare_node}
use Rattle.efg_reader.specs.declared.events.Bare.{Bare}
use Rattle.efg_reader.specs.declared.events.Event.{Event}
use Rattle.efg_reader.specs.declared.events.Event.TheVariants.{Choice}
use Rattle.efg_reader.specs.declared.first_lists.FirstList.{FirstList}

-- a set's number in the file, and how many actions its first list has
abbrev pub info_of : ℕ × FirstList → SetInfo
info_of entry = record { file = entry.0; actions = length entry.1.acts.now }

-- The index of a line's set: the set is there already, or this line is its first, and it comes last with the line's list.
pub data IsDefined (old : List (ℕ × FirstList)) (set : ℕ) (list : Option FirstList) (new : List (ℕ × FirstList)) (index : ℕ) : Type 0 where
  met : slice_get (map (λ (entry : ℕ × FirstList). entry.0) old) index ≡ Some set → new ≡ old → IsDefined old set list new index
  first : (own : FirstList) → list ≡ Some own → new ≡ old ++ (set, own) ∷ [] → index ≡ length old → IsDefined old set list new index

-- a list has a probability for each action
abbrev pub IsWhole : FirstList → Type 0
IsWhole list = length list.probs.items ≡ length list.acts.now

-- each chance list has a probability for each action, from 0 to 1
abbrev pub AreChances : List (ℕ × FirstList) → Type 0
AreChances lists = All (λ (entry : ℕ × FirstList). IsWhole entry.1 × All IsPart entry.1.probs.items) lists

-- a node without its kids
abbrev pub childless : Event → Node
childless event = bare_node (shape_with event [])

-- this set of these has as many actions as a node has kids
abbrev pub HasActions : List SetInfo → ℕ → ℕ → Type 0
HasActions sets set kids = (info : SetInfo) × (slice_get sets set ≡ Some info) × (kids ≡ info.actions)

-- a choice at a set, which it defines where it is the set's first
pub record IsChoice (side : Side) (old : List (ℕ × FirstList)) (set : ℕ) (list : Option FirstList) (new : List (ℕ × FirstList))
    (event : Event) (kids : ℕ) : Type 0 where
  pub index : ℕ
  pub event_is : event ≡ Choice side (record { 0 = index })
  pub defined : IsDefined old set list new index
  pub actions : HasActions (map info_of new) index kids

-- what happens at a node, and how many kids it has
abbrev pub turn_of : Bare → Event × ℕ
turn_of bare = (bare.event, bare.kids)

-- a player's sets are those that the nodes so far name, in the order of their first nodes
pub record AreSetsOf (side : Side) (turns : List (Event × ℕ)) (lists : List (ℕ × FirstList)) : Type 0 where
  pub actions : All (λ (turn : Event × ℕ).
      (set : ℕ) → set_at side (childless turn.0) ≡ Some set → HasActions (map info_of lists) set turn.1) turns
  pub order : AreInOrder side 0 (map (λ (turn : Event × ℕ). childless turn.0) turns) (length lists)
  pub numbers : All (λ (entry : ℕ × FirstList). entry.0 < 2 ^ 31) lists
