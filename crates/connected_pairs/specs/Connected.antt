-- Connected sets and relevant pairs of sequences (von Stengel and Forges 2008), by number.
pub use Rattle.connected_pairs.specs.Table.{AreConnected, other}
use Rattle.std.specs.Prelude.{◌≡◌, ◌↔◌, ℕ, ◌+◌, ◌*◌, ◌<◌, ◌≤◌, Bool, true, false, List, length, Option, Some, None, slice_get, slice_index_or}
use Rattle.corr_game.specs.declared.nodes.SetId.{SetId}
use Rattle.corr_game.specs.declared.sides.Side.{Side}
use Rattle.corr_game.specs.declared.sides.Side.TheVariants.{One, Two}
use Rattle.corr_game.specs.Game.{GameView}
use Rattle.sequences.specs.declared.places.Place.{Place}
use Rattle.sequences.specs.Number.{SeqsView, SideView, IsOwn, IsSide, IsSideOf, count_of, last_of, side_of}

-- the sequences, whether two sets are connected, the relevant pairs in order, and each pair's index among them
pub record PairsView : Type 0 where
  pub seqs : SeqsView
  pub table : List Bool
  pub pairs : List (ℕ × ℕ)
  pub places : List (Option ℕ)

-- whether these sets of players 1 and 2 are connected
abbrev pub are_connected : PairsView → ℕ → ℕ → Bool
are_connected p one two = slice_index_or p.table (one * length p.seqs.two.places + two) false

-- the index of a pair of sequences, if it is relevant
abbrev pub index_of : PairsView → ℕ → ℕ → Option ℕ
index_of p one two = slice_index_or p.places (one * count_of p.seqs.two + two) None

-- sequences with these last moves are relevant: one is empty, or the table connects their last sets
abbrev pub is_related : ℕ → List Bool → Option (SetId × ℕ) → Option (SetId × ℕ) → Bool
is_related width table None two = true
is_related width table (Some one) None = true
is_related width table (Some one) (Some two) = slice_index_or table (one.0.0 * width + two.0.0) false

-- whether a pair of sequences is relevant
abbrev pub is_relevant : SeqsView → List Bool → ℕ → ℕ → Bool
is_relevant s table one two = is_related (length s.two.places) table (last_of s.one one) (last_of s.two two)

-- a pair of the list is of sequences that are there, and relevant
abbrev pub IsPair : SeqsView → List Bool → ℕ × ℕ → Type 0
IsPair s table pair = (pair.0 < count_of s.one) × (pair.1 < count_of s.two) × (is_relevant s table pair.0 pair.1 ≡ true)

-- a relevant pair has its index in the list, another has none
abbrev pub IsPlaced : SeqsView → List Bool → List (ℕ × ℕ) → ℕ × ℕ → Option ℕ → Type 0
IsPlaced s table pairs pair None = is_relevant s table pair.0 pair.1 ≡ false
IsPlaced s table pairs pair (Some k) = slice_get pairs k ≡ Some pair

-- the place at this index is that of one pair, row by row
abbrev pub IsPlaceAt : SeqsView → List Bool → List (ℕ × ℕ) → ℕ → Option ℕ → Type 0
IsPlaceAt s table pairs k place = (pair : ℕ × ℕ) × (pair.1 < count_of s.two) × (k ≡ pair.0 * count_of s.two + pair.1) × IsPlaced s table pairs pair place

-- the pairs stand in rows of player 1's sequences, each in the order of player 2's
unfoldable pub AreRowByRow : SeqsView → List (ℕ × ℕ) → Type 0
AreRowByRow s pairs = (j k : ℕ) (a b : ℕ × ℕ) → slice_get pairs j ≡ Some a → slice_get pairs k ≡ Some b → j < k → a.0 * count_of s.two + a.1 < b.0 * count_of s.two + b.1

-- the pairs and places that were gone over, `count` of them
pub record IsListed (s : SeqsView) (table : List Bool) (count : ℕ) (pairs : List (ℕ × ℕ)) (places : List (Option ℕ)) : Type 0 where
  pub all : length places ≡ count
  pub at_most : length pairs ≤ count
  pub each_pair : (k : ℕ) (pair : ℕ × ℕ) → slice_get pairs k ≡ Some pair → IsPair s table pair
  pub each_index : (k : ℕ) (pair : ℕ × ℕ) → slice_get pairs k ≡ Some pair → slice_get places (pair.0 * count_of s.two + pair.1) ≡ Some (Some k)
  pub each_place : (k : ℕ) (place : Option ℕ) → slice_get places k ≡ Some place → IsPlaceAt s table pairs k place
  pub in_order : AreRowByRow s pairs

-- the rules of the table, the list and the indices
pub record IsPairs (p : PairsView) : Type 0 where
  pub sides : (side : Side) → IsSide (side_of side p.seqs)
  pub all_sets : length p.table ≡ length p.seqs.one.places * length p.seqs.two.places
  pub listed : IsListed p.seqs p.table (count_of p.seqs.one * count_of p.seqs.two) p.pairs p.places

-- whether a set of this player is connected to one of the other
abbrev pub touches : PairsView → Side → ℕ → ℕ → Bool
touches p One own set = are_connected p own set
touches p Two own set = are_connected p set own

-- a sequence's last set, if it has one, is connected to this set of the other player
abbrev pub IsTouched : PairsView → Side → ℕ → Option (SetId × ℕ) → Type 0
IsTouched p side set None = Unit {0}
IsTouched p side set (Some move) = touches p side move.0.0 set ≡ true

-- a sequence is another one, or the beginning of that one's own part
pub data IsPrefix (v : SideView) (part : ℕ) : ℕ → Type 0 where
  itself : IsPrefix v part part
  longer : (seq own : ℕ) (move : SetId × ℕ) → last_of v seq ≡ Some move → IsOwn v move.0.0 own → IsPrefix v part own → IsPrefix v part seq

-- the table says of each two sets whether they are connected in the tree
unfoldable pub TellsConnected : GameView → PairsView → Type 0
TellsConnected g p = (one two : ℕ) → one < length p.seqs.one.places → two < length p.seqs.two.places → (are_connected p one two ≡ true) ↔ AreConnected g one two

-- where two sets are connected, the last set before one is connected to the other
unfoldable pub IsClosedBack : PairsView → Side → Type 0
IsClosedBack p side = (set k : ℕ) (place : Place) (move : SetId × ℕ) → k < length (side_of (other side) p.seqs).places → touches p side set k ≡ true → slice_get (side_of side p.seqs).places set ≡ Some place
    → last_of (side_of side p.seqs) place.own ≡ Some move → touches p side move.0.0 k ≡ true

-- the pairs are those of a game's sequences, by the sets that are connected in its tree; the first is that of the empty
-- sequences
pub record IsPairsOf (g : GameView) (p : PairsView) : Type 0 where
  pub sides : (side : Side) → IsSideOf side g (side_of side p.seqs)
  pub connected : TellsConnected g p
  pub closed : (side : Side) → IsClosedBack p side
  pub first_pair : slice_get p.pairs 0 ≡ Some (0, 0)
