-- Connection goes back along own sequences. A node of a set has above it the node at which the last own move was made; a
-- node below the first is below that one too, and of a node above the first it is one of the two that are above the other.
use Rattle.std.proofs.Common.{◌≡◌, ◌⊎◌, ℕ, ◌<◌, true, Option, Some, None, zero, suc, length, sym, ap, ◌∙◌, inl, inr, arith}
use Rattle.std.proofs.lemmas.Option.{slice_get_within}
use Rattle.corr_game.specs.declared.nodes.Node.{Node}
use Rattle.corr_game.specs.declared.nodes.Node.TheVariants.{Leaf, Chance, Choice}
use Rattle.corr_game.specs.declared.nodes.SetId.{SetId}
use Rattle.corr_game.specs.declared.sides.Side.{Side}
use Rattle.corr_game.specs.declared.sides.Side.TheVariants.{One, Two}
use Rattle.corr_game.specs.Node.{set_at}
use Rattle.corr_game.specs.Game.{GameView, IsGame}
use Rattle.tree_recall.specs.Tree.{set_of, IsAbove}
use Rattle.tree_recall.proofs.Kids.{above_joined, comparable, set_node}
use Rattle.tree_recall.proofs.OwnSequences.{has_last, last_above}
use Rattle.sequences.specs.Number.{AreOwn, SideView, IsSide, IsSideOf, Ends, HasNumber, last_of, side_of}
use Rattle.sequences.proofs.Holding.{set_in}
use Rattle.connected_pairs.specs.Connected.{PairsView, IsPairs, IsPairsOf, IsClosedBack, TellsConnected, other, touches}
use Rattle.connected_pairs.specs.Table.{AreSets, IsTable}
use Rattle.connected_pairs.proofs.Listing.{first_pair}

-- a node of a set of this player and one of a set of the other lie one above the other
abbrev pub AreJoined : GameView → Side → ℕ → ℕ → Type 0
AreJoined g side set k = (m : ℕ) × (n : ℕ) × (set_of g side m ≡ Some set) × (set_of g (other side) n ≡ Some k) × (IsAbove g m n ⊎ IsAbove g n m)

turned : (g : GameView) (m n : ℕ) → IsAbove g m n ⊎ IsAbove g n m → IsAbove g n m ⊎ IsAbove g m n
turned g m n (inl h) = inr h
turned g m n (inr h) = inl h

joined_from : (g : GameView) (p : PairsView) → TellsConnected g p → (side : Side) (set k : ℕ) → set < length (side_of side p.seqs).places → k < length (side_of (other side) p.seqs).places → touches p side set k ≡ true → AreJoined g side set k
unfolding TellsConnected
joined_from g p tells One set k low left t = (tells set k low left).0 t
joined_from g p tells Two set k low left t = let h = (tells k set left low).0 t in (h.1, h.0, h.3, h.2, turned g h.0 h.1 h.4)

touches_from : (g : GameView) (p : PairsView) → TellsConnected g p → (side : Side) (set k : ℕ) → set < length (side_of side p.seqs).places → k < length (side_of (other side) p.seqs).places → AreJoined g side set k → touches p side set k ≡ true
unfolding TellsConnected
touches_from g p tells One set k low left h = (tells set k low left).1 h
touches_from g p tells Two set k low left h = (tells k set left low).1 (h.1, h.0, h.3, h.2, turned g h.0 h.1 h.4)

one_mover_at : (side : Side) (node : Node) (a b : ℕ) → set_at side node ≡ Some a → set_at (other side) node ≡ Some b → ⊥
one_mover_at side (Leaf pay) a b e f = cc
one_mover_at side (Chance kids) a b e f = cc
one_mover_at One (Choice One set kids) a b e f = cc
one_mover_at One (Choice Two set kids) a b e f = cc
one_mover_at Two (Choice One set kids) a b e f = cc
one_mover_at Two (Choice Two set kids) a b e f = cc

-- one player moves at a node
one_mover : (g : GameView) (side : Side) (n a b : ℕ) → set_of g side n ≡ Some a → set_of g (other side) n ≡ Some b → ⊥
one_mover g side n a b e f =
    let at = (set_node g side n a e).1 in
    one_mover_at side at.0 a b at.2 (rw at.1 at f)

-- the sequence with a move's number ends with it
ends_last : (v : SideView) → IsSide v → (move : SetId × ℕ) (seq : ℕ) → Ends v.places move seq → last_of v seq ≡ Some move
ends_last v side move zero h = absurd (omega (arith, h.3, side.numbered.own_before move.0.0 h.0 h.1))
ends_last v side move (suc k) h = side.numbered.each_move move k (h.0, h.1, h.2, omega (arith, h.3))

-- the last move of a set's own sequence is the last own move at a node of the set
last_move : (v : SideView) → IsSide v → (last : Option (SetId × ℕ)) (own : ℕ) (move : SetId × ℕ) → HasNumber v.places last own → last_of v own ≡ Some move → last ≡ Some move
last_move v side None own move h e = let none : last_of v own ≡ None = ap (last_of v) h in absurd (cc)
last_move v side (Some taken) own move h e = sym (ends_last v side taken own h) ∙ e

-- a node above one of two such nodes, of the first set's player, is joined to the other
joined_back : (g : GameView) → IsGame g → (side : Side) (l m n a k : ℕ) → set_of g side l ≡ Some a → set_of g (other side) n ≡ Some k → IsAbove g l m → IsAbove g m n ⊎ IsAbove g n m → IsAbove g l n ⊎ IsAbove g n l
joined_back g rules side l m n a k e f h (inl below) = inl (above_joined g rules l m n h below)
joined_back g rules side l m n a k e f h (inr above) = elim (comparable g rules l n m h above) [
  | inl same ↦
      let here : set_of g side n ≡ Some a = rw (← same) e in
      absurd (one_mover g side n a k here f)
  | inr one ↦ one
]

pub closed : (g : GameView) → IsGame g → (p : PairsView) → IsPairs p → ((side : Side) → IsSideOf side g (side_of side p.seqs)) → TellsConnected g p → (side : Side) → IsClosedBack p side
unfolding IsClosedBack AreOwn
closed g rules p pairs of tells side set k place move room t at e =
    let v = side_of side p.seqs in
    let h = joined_from g p tells side set k (slice_get_within v.places set place at) room t in
    let last = has_last g rules side h.0 (set_node g side h.0 set h.2).0 in
    let number = (of side).own_of_tree h.0 set place last.0 h.2 at last.1 in
    let same = last_move v (pairs.sides side) last.0 place.own move number e in
    let above = last_above g side h.0 move (rw same at last.1) in
    touches_from g p tells side move.0.0 k (set_in v (pairs.sides side) place.own move e) room
    (above.0, h.1, above.2, h.3, joined_back g rules side above.0 h.0 h.1 move.0.0 k above.2 h.3 above.1 h.4)

-- the table over the game's sets is one over the places of their sequences
tells : (g : GameView) (p : PairsView) → ((side : Side) → IsSideOf side g (side_of side p.seqs)) → IsTable g p.table → TellsConnected g p
unfolding TellsConnected
tells g p of table one two low left =
    let sets : AreSets g one two = (omega (arith, (of One).per_set), omega (arith, (of Two).per_set)) in
    rw (of Two).per_set (table one two sets)

-- pairs that keep the rules, of a game's sequences and with its table, are those of the game
pub pairs_of : (g : GameView) → IsGame g → (p : PairsView) → IsPairs p → ((side : Side) → IsSideOf side g (side_of side p.seqs)) → IsTable g p.table → IsPairsOf g p
pairs_of g rules p pairs of table = record {
  sides = of;
  connected = tells g p of table;
  closed = closed g rules p pairs of (tells g p of table);
  first_pair = first_pair p pairs;
}
