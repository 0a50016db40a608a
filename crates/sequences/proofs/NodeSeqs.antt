-- A kid's last own move is its parent's, or the move to it, and so is its number; so each node has the number of a
-- sequence.
use Rattle.std.proofs.Common.{◌≡◌, ℕ, ◌+◌, ◌<◌, ◌≤◌, List, Option, Some, None, length, get_or, slice_index, slice_get, All, refl, sym, ◌∙◌, subst, [], arith}
use Rattle.std.proofs.lemmas.List.{get_or_default}
use Rattle.std.proofs.lemmas.Option.{get_or_from_slice_get, slice_get-get_or, slice_get_read, slice_get_within}
use Rattle.corr_game.specs.declared.nodes.Node.{Node}
use Rattle.corr_game.specs.declared.nodes.Node.TheVariants.{Choice}
use Rattle.corr_game.specs.declared.nodes.SetId.{SetId}
use Rattle.corr_game.specs.declared.sides.Side.{Side}
use Rattle.corr_game.specs.Node.{kids_of, set_at}
use Rattle.corr_game.specs.Game.{GameView, IsGame, sets_of}
use Rattle.tree_recall.specs.Tree.{set_of}
use Rattle.tree_recall.specs.OwnSequence.{IsLastAt, at_root}
use Rattle.tree_recall.specs.LastMove.{IsHandedOn}
use Rattle.tree_recall.proofs.OwnSequences.{has_last, last_same, last_own, last_other}
use Rattle.tree_recall.proofs.Progress.{same_side-refl}
use Rattle.tree_recall.proofs.HandedDown.{IsDown, down_at, down_here, down_next}
use Rattle.sequences.specs.declared.places.Place.{Place}
use Rattle.sequences.specs.Number.{AreAtNodes, HasNumber, IsNumberingOf}
use Rattle.sequences.proofs.Adding.{own_low, within}

-- this is the number of the last own move at a node
abbrev pub Numbers : Side → GameView → List Place → ℕ → ℕ → Type 0
Numbers side g places n seq = (last : Option (SetId × ℕ)) → IsLastAt g side n last → HasNumber places last seq

-- a node's set has a place, and the numbers of its moves are numbers of sequences
pub has_place : (g : GameView) → IsGame g → (side : Side) (n : ℕ) (set : SetId) (kids : List ℕ) (places : List Place) (lasts : List (SetId × ℕ)) → IsNumberingOf (sets_of side g) places lasts
    → slice_get g.nodes n ≡ Some (Choice side set kids) → set.0 < length places
has_place g rules side n set kids places lasts p h = omega (arith, p.per_set, (rules.each_node n (Choice side set kids) h).0)

pub moves_fit : (g : GameView) → IsGame g → (side : Side) (n : ℕ) (set : SetId) (kids : List ℕ) (places : List Place) (lasts : List (SetId × ℕ)) → IsNumberingOf (sets_of side g) places lasts
    → slice_get g.nodes n ≡ Some (Choice side set kids) → (place : Place) → place ≡ get_or places set.0 place → place.first + length kids ≤ length lasts + 1
moves_fit g rules side n set kids places lasts p h place read =
    let node = rules.each_node n (Choice side set kids) h in
    let found = slice_get_read places (length places) set.0 place refl (has_place g rules side n set kids places lasts p h) read in
    let info = within (sets_of side g) set.0 node.0 in
    omega (arith, p.numbered.in_range set.0 place found, p.same_actions set.0 place info.0 found info.1, node.1 info.0 info.1)

-- the root has the empty sequence
pub number_first : (side : Side) (g : GameView) → IsGame g → (places : List Place) (seqs : List ℕ) → get_or seqs 0 0 ≡ 0 → IsDown (Numbers side g places) 0 g 0 seqs
number_first side g rules places seqs e = record {
  root = λ last h.
      let same : None ≡ last = last_same g rules side 0 None last ([], at_root, refl) h in
      rw (← same) e;
  kids = λ m action k low. absurd (omega arith);
}

-- a node that isn't the player's hands its number on
pub number_passed : (side : Side) (g : GameView) → IsGame g → (places : List Place) (n : ℕ) (node : Node) (old new : List ℕ) (seq : ℕ) → IsDown (Numbers side g places) 0 g n old → n < length g.nodes → length old ≡ length g.nodes
    → slice_get g.nodes n ≡ Some node → set_at side node ≡ None → seq ≡ get_or old n seq
    → ((k : ℕ) → IsHandedOn (kids_of node) (λ _. seq) (length (kids_of node)) k (slice_index old k) (slice_index new k)) → IsDown (Numbers side g places) 0 g (n + 1) new
number_passed side g rules places n node old new seq d low room h other read each =
    let apart : set_of g side n ≡ None = rw h other in
    let P : ℕ → Type 0 = Numbers side g places n in
    let here : P seq = subst P (get_or_default old n 0 seq (omega arith) ∙ sym read) (down_here (Numbers side g places) 0 g rules n old d low) in
    let at = has_last g rules side n low in
    down_next g rules n node h (λ _. seq) (Numbers side g places) 0 old new d
    (λ action k e last there.
    let same : at.0 ≡ last = last_same g rules side k at.0 last (last_other g side n action k at.0 at.1 apart e) there in
    rw (← same) (here at.0 at.1))
    each

-- one of the player's hands on the number of the move to each kid
pub number_moved : (side : Side) (g : GameView) → IsGame g → (places : List Place) (lasts : List (SetId × ℕ)) (n : ℕ) (set : SetId) (kids old new : List ℕ) (place : Place) → IsNumberingOf (sets_of side g) places lasts
    → IsDown (Numbers side g places) 0 g n old → n < length g.nodes → slice_get g.nodes n ≡ Some (Choice side set kids) → place ≡ get_or places set.0 place
    → ((k : ℕ) → IsHandedOn kids (λ action. place.first + action) (length kids) k (slice_index old k) (slice_index new k)) → IsDown (Numbers side g places) 0 g (n + 1) new
number_moved side g rules places lasts n set kids old new place p d low h read each =
    let own : set_of g side n ≡ Some set.0 = rw (h, same_side-refl side) refl in
    let at = has_last g rules side n low in
    let node = rules.each_node n (Choice side set kids) h in
    let found = slice_get_read places (length places) set.0 place refl (has_place g rules side n set kids places lasts p h) read in
    let info = within (sets_of side g) set.0 node.0 in
    down_next g rules n (Choice side set kids) h (λ action. place.first + action) (Numbers side g places) 0 old new d
    (λ action k e last there.
    let same : Some (set, action) ≡ last = last_same g rules side k (Some (set, action)) last (last_own g side n action k set at.0 at.1 own e) there in
    let kid : slice_get kids action ≡ Some k = rw h at e in
    let taken : action < place.actions = omega (arith, slice_get_within kids action k kid, node.1 info.0 info.1, p.same_actions set.0 place info.0 found info.1) in
    rw (← same) (place, found, taken, refl))
    each

-- behind the last node each has its number
pub numbers_all : (side : Side) (g : GameView) → IsGame g → (places : List Place) (n : ℕ) (seqs : List ℕ) → IsDown (Numbers side g places) 0 g n seqs → length seqs ≡ length g.nodes → length g.nodes ≤ n → AreAtNodes side g places seqs
unfolding AreAtNodes
numbers_all side g rules places n seqs d room end m seq last e h =
    let in_list : m < length g.nodes = omega (arith, slice_get_within seqs m seq e) in
    let there = down_at (Numbers side g places) 0 g rules n m seqs d (omega arith) in_list last h in
    let P : ℕ → Type 0 = HasNumber places last in
    subst P (get_or_from_slice_get seqs m seq 0 e) there

-- and it is one of the player's
pub numbers_low : (side : Side) (g : GameView) → IsGame g → (places : List Place) (lasts : List (SetId × ℕ)) (seqs : List ℕ) → IsNumberingOf (sets_of side g) places lasts → AreAtNodes side g places seqs → length seqs ≡ length g.nodes
    → All (λ seq. seq ≤ length lasts) seqs
unfolding AreAtNodes
numbers_low side g rules places lasts seqs p at room k d low =
    let last = has_last g rules side k (omega arith) in
    own_low places lasts last.0 (get_or seqs k d) p.numbered (at k (get_or seqs k d) last.0 (slice_get-get_or seqs k d low) last.1)
