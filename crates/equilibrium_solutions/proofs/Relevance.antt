-- The two sequences of a node are a relevant pair: their last moves were made at nodes above it, of which one is above the other.
use Rattle.std.proofs.Common.{◌≡◌, ℕ, ◌+◌, ◌*◌, ◌<◌, inl, inr, true, false, List, [], ◌∷◌, Option, Some, None}
use Rattle.std.proofs.Common.{length, slice_get, slice_index, refl, arith}
use Rattle.std.proofs.lemmas.Nat.{same_from_place}
use Rattle.std.proofs.lemmas.Option.{slice_get-get_or}
use Rattle.corr_game.specs.declared.nodes.Node.{Node}
use Rattle.corr_game.specs.declared.nodes.Node.TheVariants.{Leaf, Chance, Choice}
use Rattle.corr_game.specs.declared.nodes.SetId.{SetId}
use Rattle.corr_game.specs.declared.sides.Side.{Side}
use Rattle.corr_game.specs.declared.sides.Side.TheVariants.{One, Two}
use Rattle.corr_game.specs.Game.{GameView, IsGame}
use Rattle.corr_game.specs.Node.{set_at}
use Rattle.tree_recall.specs.OwnSequence.{IsOwnAt, latest}
use Rattle.tree_recall.specs.Tree.{IsAbove, set_of}
use Rattle.tree_recall.proofs.Kids.{above_joined, comparable, set_node}
use Rattle.tree_recall.proofs.OwnSequences.{made_above}
use Rattle.sequences.specs.Number.{count_of, last_of, side_of}
use Rattle.sequences.proofs.Holding.{set_in}
use Rattle.connected_pairs.specs.Connected.{AreConnected, PairsView, IsPairs, IsPairsOf, IsPlaceAt, TellsConnected, index_of, is_related}
use Rattle.connected_pairs.specs.Connected.{is_relevant, other}
use Rattle.connected_pairs.proofs.Indices.{index_in, node_in}
use Rattle.connected_pairs.proofs.Listing.{cell}
use Rattle.plan_polytope.proofs.Columns.{pair_at}
use Rattle.incentive_rows.specs.Coefficient.{pair_column}
use Rattle.equilibrium_solutions.specs.Departure.{OwnSequences}
use Rattle.equilibrium_solutions.proofs.Numbers.{node_last}

abbrev Moves : Type 0
Moves = List (SetId × ℕ)

one_mover_at : (node : Node) (a b : ℕ) → set_at One node ≡ Some a → set_at Two node ≡ Some b → ⊥
one_mover_at (Leaf pay) a b e f = cc
one_mover_at (Chance kids) a b e f = cc
one_mover_at (Choice One set kids) a b e f = cc
one_mover_at (Choice Two set kids) a b e f = cc

-- one player moves at a node
one_mover : (g : GameView) (n a b : ℕ) → set_of g One n ≡ Some a → set_of g Two n ≡ Some b → ⊥
one_mover g n a b e f =
    let at = (set_node g One n a e).1 in
    one_mover_at at.0 a b at.2 (rw at.1 at f)

-- sets with nodes above one node are connected
met_on_path : (g : GameView) → IsGame g → (n l m a b : ℕ) → IsAbove g l n → set_of g One l ≡ Some a → IsAbove g m n
    → set_of g Two m ≡ Some b → AreConnected g a b
met_on_path g rules n l m a b up e over f = elim (comparable g rules l m n up over) [
  | inl same ↦ absurd (one_mover g m a b (rw same at e) f)
  | inr apart ↦ (l, m, e, f, apart)
]

-- a last move is none, or at a set with a node above this one
abbrev pub IsOnPath : GameView → Side → ℕ → Option (SetId × ℕ) → Type 0
IsOnPath g side n None = Unit {0}
IsOnPath g side n (Some move) = (m : ℕ) × IsAbove g m n × (set_of g side m ≡ Some move.0.0)

pub own_on_path : (g : GameView) (side : Side) (n : ℕ) (moves : Moves) → IsOwnAt g side n moves → IsOnPath g side n (latest moves)
own_on_path g side n [] own = tt
own_on_path g side n (move ∷ before) own =
    let above = made_above g side n (move ∷ before) own move before refl in (above.0, above.1, above.2)

-- what is on the path to a node is on the path to each node below
pub path_down : (g : GameView) → IsGame g → (side : Side) (m n : ℕ) (last : Option (SetId × ℕ)) → IsAbove g m n → IsOnPath g side m last
    → IsOnPath g side n last
path_down g rules side m n None up h = tt
path_down g rules side m n (Some move) up h = (h.0, above_joined g rules h.0 m n h.1 up, h.2)

-- a player's own sequence and the other player's, player 1's first
abbrev pub pair_of : Side → ℕ → ℕ → ℕ × ℕ
pair_of One own beside = (own, beside)
pair_of Two own beside = (beside, own)

module _ (g : GameView) (rules : IsGame g) (p : PairsView) (pairs : IsPairs p) (of : IsPairsOf g p) where
  related : (n one two : ℕ) (a b : Option (SetId × ℕ)) → last_of p.seqs.one one ≡ a → last_of p.seqs.two two ≡ b → IsOnPath g One n a
      → IsOnPath g Two n b → is_related (length p.seqs.two.places) p.table a b ≡ true
  unfolding TellsConnected
  related n one two None b e f up over = refl
  related n one two (Some a) None e f up over = refl
  related n one two (Some a) (Some b) e f up over =
      (of.connected a.0.0 b.0.0 (set_in p.seqs.one (pairs.sides One) one a e) (set_in p.seqs.two (pairs.sides Two) two b f)).1
      (met_on_path g rules n up.0 over.0 a.0.0 b.0.0 up.1 up.2 over.1 over.2)

  place_found : (one two : ℕ) (place : Option ℕ) → index_of p one two ≡ place → two < count_of p.seqs.two
      → is_relevant p.seqs p.table one two ≡ true
      → IsPlaceAt p.seqs p.table p.pairs (one * count_of p.seqs.two + two) place
      → (k : ℕ) × (index_of p one two ≡ Some k) × (k < length p.pairs)
  place_found one two None e left h at =
      let same = same_from_place one two at.0.0 at.0.1 (count_of p.seqs.two) left at.1 at.2 in
      let no : is_relevant p.seqs p.table one two ≡ false = rw (same.0, same.1) at.3 in
      absurd (cc)
  place_found one two (Some k) e left h at = (k, e, index_in p pairs one two k e)

  -- a relevant pair has an index
  pub has_index : (one two : ℕ) → one < count_of p.seqs.one → two < count_of p.seqs.two → is_relevant p.seqs p.table one two ≡ true
      → (k : ℕ) × (index_of p one two ≡ Some k) × (k < length p.pairs)
  has_index one two low left h =
      let width = count_of p.seqs.two in
      let inside = cell one two width (count_of p.seqs.one) width (length p.places) low left refl pairs.listed.all in
      let there = slice_get-get_or p.places (one * width + two) None inside in
      place_found one two (index_of p one two) refl left h (pairs.listed.each_place _ (index_of p one two) there)

  -- two sequences whose last moves are on the path to a node have a column
  pub path_column : (side : Side) (own beside n : ℕ) → own < count_of (side_of side p.seqs)
      → beside < count_of (side_of (other side) p.seqs) → IsOnPath g side n (last_of (side_of side p.seqs) own)
      → IsOnPath g (other side) n (last_of (side_of (other side) p.seqs) beside)
      → (k : ℕ) × (pair_column p side own beside ≡ Some k) × (k < length p.pairs)
  path_column One own beside n low left up over = has_index own beside low left (related n own beside _ _ refl refl up over)
  path_column Two own beside n low left up over = has_index beside own left low (related n beside own _ _ refl refl over up)

  pub node_low : (side : Side) (n : ℕ) → n < length g.nodes → slice_index (side_of side p.seqs).nodes n < count_of (side_of side p.seqs)
  node_low side n low = node_in (side_of side p.seqs) (pairs.sides side) n (omega (arith, (of.sides side).per_node))

  pub node_on_path : (side : Side) (own : OwnSequences side g) (n : ℕ) → n < length g.nodes
      → IsOnPath g side n (last_of (side_of side p.seqs) (slice_index (side_of side p.seqs).nodes n))
  node_on_path side own n low =
      rw (node_last g rules p pairs of side own n low) (own_on_path g side n (own.node n) (own.each_node.each n low))

  -- a node's two sequences have a column
  pub own_relevant : (side : Side) → OwnSequences side g → OwnSequences (other side) g → (n : ℕ) → n < length g.nodes
      → (k : ℕ)
      × (pair_column p side (slice_index (side_of side p.seqs).nodes n) (slice_index (side_of (other side) p.seqs).nodes n) ≡ Some k)
      × (k < length p.pairs)
  own_relevant side own beside n low =
      path_column side _ _ n (node_low side n low) (node_low (other side) n low) (node_on_path side own n low)
      (node_on_path (other side) beside n low)

  -- a column is that of its pair, player 1's sequence first
  pub column_pair : (side : Side) (own beside k : ℕ) → own < count_of (side_of side p.seqs)
      → beside < count_of (side_of (other side) p.seqs)
      → pair_column p side own beside ≡ Some k → slice_get p.pairs k ≡ Some (pair_of side own beside)
  column_pair One own beside k low left e = pair_at p pairs own beside k left e
  column_pair Two own beside k low left e = pair_at p pairs beside own k low e
