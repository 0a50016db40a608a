-- Before node n the last own move is known at every kid of the nodes gone over, and for every set met. Sets whose nodes
-- have one last move have one own sequence, by induction on the nodes above.
use Rattle.std.proofs.Common.{◌≡◌, ℕ, ◌+◌, ◌<◌, ◌≤◌, List, [], ◌∷◌, Option, Some, None, suc, zero, length, get_or, slice_get, refl, ap, ◌∙◌, inl, inr, arith}
use Rattle.std.proofs.lemmas.Bool.{cases_lt}
use Rattle.corr_game.specs.declared.nodes.SetId.{SetId}
use Rattle.corr_game.specs.declared.sides.Side.{Side}
use Rattle.corr_game.specs.Game.{GameView, IsGame}
use Rattle.tree_recall.specs.Tree.{set_of}
use Rattle.tree_recall.specs.OwnSequence.{IsLastAt, HasRecall, IsOwnAt, at_root}
use Rattle.tree_recall.specs.LastMove.{AreOfTree}
use Rattle.tree_recall.proofs.HandedDown.{IsDown}
use Rattle.tree_recall.proofs.Kids.{set_node, above_within}
use Rattle.tree_recall.proofs.OwnSequences.{last_same, made_above}

abbrev pub Move : Type 0
Move = SetId × ℕ

-- the move kept for a set is the last own move at this node
abbrev pub IsKnown : GameView → Side → List (Option Move) → ℕ → ℕ → Type 0
IsKnown g side moves set m = (last : Option Move) × (slice_get moves set ≡ Some last) × IsLastAt g side m last

pub record IsTold (side : Side) (g : GameView) (n : ℕ) (above moves : List (Option Move)) : Type 0 where
  pub down : IsDown (λ k last. IsLastAt g side k last) None g n above
  pub sets : (m set : ℕ) → m < n → set_of g side m ≡ Some set → IsKnown g side moves set m

-- what is kept for the sets stays, and this node's set has this node's last move
pub sets_next : (side : Side) (g : GameView) (n : ℕ) (above moves more : List (Option Move)) → IsTold side g n above moves
    → ((set : ℕ) (last : Option Move) → slice_get moves set ≡ Some last → slice_get more set ≡ Some last)
    → ((set : ℕ) → set_of g side n ≡ Some set → IsKnown g side more set n)
    → (m set : ℕ) → m < n + 1 → set_of g side m ≡ Some set → IsKnown g side more set m
sets_next side g n above moves more t grown here m set low e = elim (cases_lt m n) [
  | inl before ↦ let known = t.sets m set before e in (known.0, grown set known.0 known.1, known.2)
  | inr last ↦ let same : m ≡ n = omega arith in rw same (here set (rw (← same) e))
]

-- before the root nothing is gone over
pub told_first : (side : Side) (g : GameView) (above : List (Option Move)) → get_or above 0 None ≡ None → IsTold side g 0 above []
told_first side g above e = record {
  down = record { root = rw e ([], at_root, refl); kids = λ m action k low. absurd (omega arith) };
  sets = λ m set low. absurd (omega arith);
}

-- behind the last node every set's move is that of the tree
pub told_all : (side : Side) (g : GameView) → IsGame g → (n : ℕ) (above moves : List (Option Move)) → IsTold side g n above moves → length g.nodes ≤ n → AreOfTree side g moves
unfolding AreOfTree
told_all side g rules n above moves t end m set last e =
    let room = (set_node g side m set e).0 in
    let known = t.sets m set (omega arith) e in (
      λ found. (let same : known.0 ≡ last = cc (known.1, found) in rw (← same) known.2),
      λ at. known.1 ∙ ap Some (last_same g rules side m known.0 last known.2 at),
    )

-- the nodes before n of a set have one last move
pub record AreAlike (side : Side) (g : GameView) (n : ℕ) : Type 0 where
  pub same : (m k set : ℕ) (x y : Option Move) → m < n → k < n → set_of g side m ≡ Some set → set_of g side k ≡ Some set → IsLastAt g side m x → IsLastAt g side k y → x ≡ y

pub alike : (side : Side) (g : GameView) → IsGame g → (n : ℕ) (above moves : List (Option Move)) → IsTold side g n above moves → AreAlike side g n
alike side g rules n above moves t = record {
  same = λ m k set x y low left e f h j.
      let one = t.sets m set low e in
      let two = t.sets k set left f in
      let kept : one.0 ≡ two.0 = cc (one.1, two.1) in
      last_same g rules side m x one.0 h one.2 ∙ (kept ∙ last_same g rules side k two.0 y two.2 j);
}

-- So they have one own sequence: before the last moves, made at nodes above, stand own sequences of nodes of one set.
recall_from : (side : Side) (g : GameView) → IsGame g → (n : ℕ) → AreAlike side g n → (left m k set : ℕ) (a b : List Move) → m < left → m < n → k < n → set_of g side m ≡ Some set → set_of g side k ≡ Some set
    → IsOwnAt g side m a → IsOwnAt g side k b → a ≡ b
recall_from side g rules n like zero m k set a b bound low less e f h j = absurd (omega arith)
recall_from side g rules n like (suc left) m k set [] [] bound low less e f h j = refl
recall_from side g rules n like (suc left) m k set [] (y ∷ b) bound low less e f h j =
    let move : None ≡ Some y = like.same m k set None (Some y) low less e f ([], h, refl) (y ∷ b, j, refl) in
    absurd (cc)
recall_from side g rules n like (suc left) m k set (x ∷ a) [] bound low less e f h j =
    let move : Some x ≡ None = like.same m k set (Some x) None low less e f (x ∷ a, h, refl) ([], j, refl) in
    absurd (cc)
recall_from side g rules n like (suc left) m k set (x ∷ a) (y ∷ b) bound low less e f h j =
    let last = like.same m k set (Some x) (Some y) low less e f (x ∷ a, h, refl) (y ∷ b, j, refl) in
    let move : x ≡ y = cc in
    let over = made_above g side m (x ∷ a) h x a refl in
    let other = made_above g side k (y ∷ b) j y b refl in
    let one = above_within g rules over.0 m over.1 in
    let two = above_within g rules other.0 k other.1 in
    let rest = recall_from side g rules n like left over.0 other.0 x.0.0 a b (omega (arith, one.0)) (omega (arith, one.0)) (omega (arith, two.0)) over.2 (rw move other.2) over.3 other.3 in
    cc (move, rest)

pub recall_before : (side : Side) (g : GameView) → IsGame g → (n : ℕ) → AreAlike side g n → (m k set : ℕ) (a b : List Move) → m < n → k < n → set_of g side m ≡ Some set → set_of g side k ≡ Some set
    → IsOwnAt g side m a → IsOwnAt g side k b → a ≡ b
recall_before side g rules n like m k set a b low less e f h j = recall_from side g rules n like (m + 1) m k set a b (omega arith) low less e f h j

pub recall_all : (side : Side) (g : GameView) → IsGame g → (n : ℕ) → AreAlike side g n → length g.nodes ≤ n → HasRecall g side
unfolding HasRecall
recall_all side g rules n like end m k set a b e f h j =
    recall_before side g rules n like m k set a b (omega (arith, (set_node g side m set e).0)) (omega (arith, (set_node g side k set f).0)) e f h j
