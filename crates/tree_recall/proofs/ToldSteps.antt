-- The arms of the loop: a node that isn't the player's hands its own last move on, one of the player's hands its moves on
-- and keeps its last move for its set, or has the one that is kept.
use Rattle.std.proofs.Common.{◌≡◌, ℕ, ◌+◌, ◌<◌, ◌≤◌, List, [], ◌∷◌, ◌++◌, Option, Some, None, suc, zero, length, map, get_or, slice_get, refl, sym, ap, ◌∙◌, subst, inl, inr, arith}
use Rattle.std.proofs.lemmas.Bool.{cases_lt}
use Rattle.std.proofs.lemmas.List.{get_or_default, map_push, length-map}
use Rattle.std.proofs.lemmas.Option.{slice_get-get_or}
use Rattle.corr_game.specs.declared.nodes.Node.{Node}
use Rattle.corr_game.specs.declared.nodes.Node.TheVariants.{Choice}
use Rattle.corr_game.specs.declared.nodes.SetId.{SetId}
use Rattle.corr_game.specs.declared.sides.Side.{Side}
use Rattle.corr_game.specs.Node.{kids_of, set_at}
use Rattle.corr_game.specs.Game.{GameView, IsGame}
use Rattle.tree_recall.specs.declared.recalls.Met.{Met}
use Rattle.tree_recall.specs.Tree.{set_of}
use Rattle.tree_recall.specs.OwnSequence.{IsLastAt}
use Rattle.tree_recall.specs.LastMove.{IsHandedOn}
use Rattle.tree_recall.proofs.OwnSequences.{last_own, last_other}
use Rattle.tree_recall.proofs.Progress.{last_of, same_side-refl}
use Rattle.tree_recall.proofs.Told.{IsTold, Move, sets_next}
use Rattle.tree_recall.proofs.HandedDown.{down_here, down_next}

-- an entry read is the last own move at node n
pub read_here : (side : Side) (g : GameView) → IsGame g → (n : ℕ) (above moves : List (Option Move)) (last : Option Move) → IsTold side g n above moves → n < length g.nodes → length above ≡ length g.nodes
    → last ≡ get_or above n last → IsLastAt g side n last
read_here side g rules n above moves last t low room read =
    let P : Option Move → Type 0 = IsLastAt g side n in
    subst P (get_or_default above n None last (omega arith) ∙ sym read) (down_here (λ k x. IsLastAt g side k x) None g rules n above t.down low)

pub told_passed : (side : Side) (g : GameView) → IsGame g → (n : ℕ) (node : Node) (above new moves : List (Option Move)) (last : Option Move) → IsTold side g n above moves → n < length g.nodes → length above ≡ length g.nodes
    → slice_get g.nodes n ≡ Some node → set_at side node ≡ None → last ≡ get_or above n last
    → ((k : ℕ) (none : Option Move) → IsHandedOn (kids_of node) (λ _. last) (length (kids_of node)) k (get_or above k none) (get_or new k none)) → IsTold side g (n + 1) new moves
told_passed side g rules n node above new moves last t low room h other read each =
    let here = read_here side g rules n above moves last t low room read in
    let apart : set_of g side n ≡ None = rw h other in
    record {
      down = down_next g rules n node h (λ _. last) (λ k x. IsLastAt g side k x) None above new t.down (λ action k e. last_other g side n action k last here apart e) (λ k. each k None);
      sets = sets_next side g n above moves moves t (λ set x e. e) (λ set e. absurd (cc));
    }

still : {X : Type 0} (xs : List X) (y x : X) (k : ℕ) → slice_get xs k ≡ Some x → slice_get (xs ++ y ∷ []) k ≡ Some x
still [] y x k h = absurd (cc)
still (z ∷ zs) y x zero h = h
still (z ∷ zs) y x (suc k) h = still zs y x k h

pushed : {X : Type 0} (xs : List X) (y : X) → slice_get (xs ++ y ∷ []) (length xs) ≡ Some y
pushed [] y = refl
pushed (z ∷ zs) y = pushed zs y

pub last_at : (met : List Met) (k : ℕ) (m : Met) → slice_get met k ≡ Some m → slice_get (map last_of met) k ≡ Some m.last
last_at [] k m h = absurd (cc)
last_at (x ∷ xs) zero m h = let same : x ≡ m = cc in ap (λ (y : Met). Some y.last) same
last_at (x ∷ xs) (suc k) m h = last_at xs k m h

-- what is kept for the sets once this node's is met
keeps : (set : SetId) (met more : List Met) (node : Met) → set.0 ≤ length met → (set.0 < length met → more ≡ met) → (set.0 ≡ length met → more ≡ met ++ node ∷ [])
    → ((known : Met) → slice_get met set.0 ≡ Some known → known.last ≡ node.last)
    → ((k : ℕ) (last : Option Move) → slice_get (map last_of met) k ≡ Some last → slice_get (map last_of more) k ≡ Some last) × (slice_get (map last_of more) set.0 ≡ Some node.last)
keeps set met more node room known added alike = elim (cases_lt set.0 (length met)) [
  | inl old ↦
      let at = slice_get-get_or met set.0 node old in
      rw (known old) (λ k last h. h, last_at met set.0 (get_or met set.0 node) at ∙ ap Some (alike (get_or met set.0 node) at))
  | inr next ↦
      let same : set.0 ≡ length met = omega arith in
      rw (added same, map_push last_of met node)
      (λ k last h. still (map last_of met) node.last last k h, rw (same, ← length-map met last_of) (pushed (map last_of met) node.last))
]

pub told_moved : (side : Side) (g : GameView) → IsGame g → (n : ℕ) (set : SetId) (kids : List ℕ) (above new : List (Option Move)) (met more : List Met) (node : Met) → IsTold side g n above (map last_of met) → n < length g.nodes
    → length above ≡ length g.nodes → slice_get g.nodes n ≡ Some (Choice side set kids) → node.last ≡ get_or above n node.last → set.0 ≤ length met
    → (set.0 < length met → more ≡ met) → (set.0 ≡ length met → more ≡ met ++ node ∷ []) → ((known : Met) → slice_get met set.0 ≡ Some known → known.last ≡ node.last)
    → ((k : ℕ) (none : Option Move) → IsHandedOn kids (λ action. Some (set, action)) (length kids) k (get_or above k none) (get_or new k none)) → IsTold side g (n + 1) new (map last_of more)
told_moved side g rules n set kids above new met more node t low room h read order known added alike each =
    let here = read_here side g rules n above (map last_of met) node.last t low room read in
    let own : set_of g side n ≡ Some set.0 = rw (h, same_side-refl side) refl in
    let kept = keeps set met more node order known added alike in
    record {
      down = down_next g rules n (Choice side set kids) h (λ action. Some (set, action)) (λ k x. IsLastAt g side k x) None above new t.down
          (λ action k e. last_own g side n action k set node.last here own e) (λ k. each k None);
      sets = sets_next side g n above (map last_of met) (map last_of more) t kept.0 (λ k e. (let same : set.0 ≡ k = cc in rw (← same) (node.last, kept.1, here)));
    }
