-- One node on: its kids' entries become the move above them, and a set that is met for the first time is the next
-- one. So every last move kept is at a set met before.
use Rattle.std.specs.Result.{IsErrAnd, IfErr}
use Rattle.std.proofs.Common.{Result, Ok, Err}
use Rattle.std.proofs.Common.{◌≡◌, ℕ, ◌+◌, ◌<◌, ◌≤◌, List, [], ◌∷◌, ◌++◌, Option, Some, None, zero, suc, length, map, get_or, slice_get, drop, All, refl, sym, subst, ap, ◌∙◌, inl, inr, ◌⊎◌, arith, max, true, false}
use Rattle.std.proofs.lemmas.Bool.{cases_lt}
use Rattle.std.proofs.lemmas.List.{drop_all, length_push, map_push, length-map, length-replicate}
use Rattle.std.proofs.lemmas.List.Elements.{All-same, All-replicate}
use Rattle.std.proofs.lemmas.Option.{slice_get-get_or}
use lib.ListN.{replicate}
use denote.Enum.Bare.{sameb}
use Rattle.corr_game.specs.contracts.sides.Side.{the_type as side_type}
use Rattle.corr_game.specs.declared.nodes.Node.{Node}
use Rattle.corr_game.specs.declared.nodes.Node.TheVariants.{Choice}
use Rattle.corr_game.specs.declared.nodes.SetId.{SetId}
use Rattle.corr_game.specs.declared.nodes.SetInfo.{SetInfo}
use Rattle.corr_game.specs.declared.sides.Side.{Side}
use Rattle.corr_game.specs.declared.sides.Side.TheVariants.{One, Two}
use Rattle.corr_game.specs.Node.{kids_of, set_at, same_side}
use Rattle.corr_game.specs.Sets.{AreInOrder}
use Rattle.corr_game.specs.Game.{GameView, IsGame, sets_of}
use Rattle.tree_recall.specs.declared.recalls.Met.{Met}
use Rattle.tree_recall.specs.OwnSequence.{HasRecall}
use Rattle.tree_recall.specs.LastMove.{RecalledView, IsMoveBelow, AreEarlier, AreOfTree, IsHandedOn, IsRecallOf, moves_of}
use Rattle.tree_recall.proofs.Order.{next-in_order}

abbrev pub Move : Type 0
Move = SetId × ℕ

abbrev pub last_of : Met → Option Move
last_of m = m.last

-- before node n: the sets met come in order, and every last move kept is at one of them
pub record IsProgress (side : Side) (g : GameView) (n : ℕ) (above : List (Option Move)) (met : List Met) : Type 0 where
  pub room : length above ≡ length g.nodes
  pub in_order : AreInOrder side (length met) (drop n g.nodes) (length (sets_of side g))
  pub moves : All (IsMoveBelow (length met) (sets_of side g)) above
  pub earlier : AreEarlier (sets_of side g) (map last_of met)

IsMoveBelow-weaker : (a b : ℕ) (sets : List SetInfo) (move : Option Move) → a ≤ b → IsMoveBelow a sets move → IsMoveBelow b sets move
IsMoveBelow-weaker a b sets None h m = tt
IsMoveBelow-weaker a b sets (Some move) h m = (omega (arith, m.0), m.1)

-- what holds of every entry and of all that kids are given holds of every entry after
All-handed : (P : Option Move → Type 0) (kids : List ℕ) (given : ℕ → Option Move) (old new : List (Option Move)) → length new ≡ length old → All P old → ((action : ℕ) → action < length kids → P (given action))
    → ((k : ℕ) (none : Option Move) → IsHandedOn kids given (length kids) k (get_or old k none) (get_or new k none)) → All P new
All-handed P kids given old new count all gift each k d h = elim (each k d) [
  | inl handed ↦ subst P (sym handed.3) (gift handed.0 handed.1)
  | inr kept ↦ subst P (sym kept.1) (all k d (omega (arith, count)))
]

-- an element of a list with one more at its end
pub slice_get-push : {X : Type 0} (xs : List X) (y x : X) (k : ℕ) → slice_get (xs ++ y ∷ []) k ≡ Some x → (slice_get xs k ≡ Some x) ⊎ ((k ≡ length xs) × (y ≡ x))
slice_get-push [] y x zero h = inr (refl, (cc))
slice_get-push [] y x (suc k) h = absurd (cc)
slice_get-push (z ∷ zs) y x zero h = inl h
slice_get-push (z ∷ zs) y x (suc k) h =
    elim (slice_get-push zs y x k h) [ inl there ↦ inl there | inr here ↦ inr (omega (arith, here.0), here.1) ]

AreEarlier-push : (sets : List SetInfo) (moves : List (Option Move)) (last : Option Move) → AreEarlier sets moves → IsMoveBelow (length moves) sets last → AreEarlier sets (moves ++ last ∷ [])
AreEarlier-push sets moves last all here set found h =
    elim (slice_get-push moves last found set h) [
      | inl there ↦ all set found there
      | inr end ↦ rw (end.0, ← end.1) here
    ]

-- a node that isn't of this player passes its own last move on
pub passed_on : (side : Side) (g : GameView) (n : ℕ) (node : Node) (above new : List (Option Move)) (met : List Met) (last : Option Move) → IsProgress side g n above met → n < length g.nodes
    → slice_get g.nodes n ≡ Some node → set_at side node ≡ None → last ≡ get_or above n last → length new ≡ length above
    → ((k : ℕ) (none : Option Move) → IsHandedOn (kids_of node) (λ _. last) (length (kids_of node)) k (get_or above k none) (get_or new k none)) → IsProgress side g (n + 1) new met
passed_on side g n node above new met last p low h other read count each =
    let order = next-in_order side (length met) g.nodes n (length (sets_of side g)) node h p.in_order in
    let P = IsMoveBelow (length met) (sets_of side g) in
    let move : P last = subst P (sym read) (p.moves n last (omega (arith, p.room))) in
    record {
      room = omega (arith, count, p.room);
      in_order = rw other at order.1;
      moves = All-handed P (kids_of node) (λ _. last) above new count p.moves (λ action low. move) each;
      earlier = p.earlier;
    }

pub same_side-refl : (side : Side) → same_side side side ≡ true
same_side-refl One = refl
same_side-refl Two = refl

-- a node of this player is at a set met before or the next one
pub met_or_next : (side : Side) (g : GameView) (n : ℕ) (set : SetId) (kids : List ℕ) (above : List (Option Move)) (met : List Met) → IsProgress side g n above met
    → slice_get g.nodes n ≡ Some (Choice side set kids) → set.0 ≤ length met
met_or_next side g n set kids above met p h =
    let order = next-in_order side (length met) g.nodes n (length (sets_of side g)) (Choice side set kids) h p.in_order in
    (rw (same_side-refl side) at order).0

-- the player of the crate's `==` is that of the definition
pub eq-same_side : (a b : Side) → sameb side_type a b ≡ same_side b a
eq-same_side One One = refl
eq-same_side One Two = refl
eq-same_side Two One = refl
eq-same_side Two Two = refl

pub same_from_side : (a b : Side) → same_side b a ≡ true → a ≡ b
same_from_side One One h = refl
same_from_side One Two h = absurd (cc)
same_from_side Two One h = absurd (cc)
same_from_side Two Two h = refl

-- a node of the other player names no set of this one
pub other_set : (side mover : Side) (set : SetId) (kids : List ℕ) → same_side side mover ≡ false → set_at side (Choice mover set kids) ≡ None
other_set side mover set kids h = rw h refl

-- with these sets met, a node of this player passes on the move that leads to each kid
moved_with : (side : Side) (g : GameView) → IsGame g → (n : ℕ) (set : SetId) (kids : List ℕ) (above new : List (Option Move)) (met more : List Met) → IsProgress side g n above met
    → slice_get g.nodes n ≡ Some (Choice side set kids) → length new ≡ length above
    → length met ≤ length more → set.0 < length more → max (length met) (set.0 + 1) ≡ length more → AreEarlier (sets_of side g) (map last_of more)
    → ((k : ℕ) (none : Option Move) → IsHandedOn kids (λ action. Some (set, action)) (length kids) k (get_or above k none) (get_or new k none)) → IsProgress side g (n + 1) new more
moved_with side g rules n set kids above new met more p h count grown low most earlier each =
    let order = rw (same_side-refl side) at (next-in_order side (length met) g.nodes n (length (sets_of side g)) (Choice side set kids) h p.in_order) in
    let Q : ℕ → Type 0 = λ m. AreInOrder side m (drop (n + 1) g.nodes) (length (sets_of side g)) in
    let node = rules.each_node n (Choice side set kids) h in
    record {
      room = omega (arith, count, p.room);
      in_order = subst Q most order.1;
      moves = All-handed (IsMoveBelow (length more) (sets_of side g)) kids (λ action. Some (set, action)) above new count
          (λ k d l. IsMoveBelow-weaker (length met) (length more) (sets_of side g) (get_or above k d) grown (p.moves k d l))
          (λ action small. (low, λ info at. omega (arith, small, node.1 info at))) each;
      earlier = earlier;
    }

-- a node of this player passes on the move that leads to each kid
pub moved_on : (side : Side) (g : GameView) → IsGame g → (n : ℕ) (set : SetId) (kids : List ℕ) (above new : List (Option Move)) (met more : List Met) (node : Met) → IsProgress side g n above met → n < length g.nodes
    → slice_get g.nodes n ≡ Some (Choice side set kids) → node.last ≡ get_or above n node.last → length new ≡ length above
    → (set.0 < length met → more ≡ met) → (set.0 ≡ length met → more ≡ met ++ node ∷ [])
    → ((k : ℕ) (none : Option Move) → IsHandedOn kids (λ action. Some (set, action)) (length kids) k (get_or above k none) (get_or new k none)) → IsProgress side g (n + 1) new more
moved_on side g rules n set kids above new met more node p low h read count known added each =
    let here = met_or_next side g n set kids above met p h in
    let P = IsMoveBelow (length met) (sets_of side g) in
    let move : P node.last = subst P (sym read) (p.moves n node.last (omega (arith, p.room))) in
    elim (cases_lt set.0 (length met)) [
      | inl old ↦ rw (known old) (moved_with side g rules n set kids above new met met p h count (omega arith) old (omega arith) p.earlier each)
      | inr next ↦
          let same : set.0 ≡ length met = omega arith in
          let longer = length_push met node in
          let last : IsMoveBelow (length (map last_of met)) (sets_of side g) node.last = rw (length-map met last_of) move in
          let earlier = AreEarlier-push (sets_of side g) (map last_of met) node.last p.earlier last in
          rw (added same) (moved_with side g rules n set kids above new met (met ++ node ∷ []) p h count (omega arith) (omega arith) (omega arith) (rw (map_push last_of met node) earlier) each)
    ]

-- a node of a set has at most 64 kids
pub few_kids : (g : GameView) → IsGame g → (n : ℕ) (mover : Side) (set : SetId) (kids : List ℕ) → slice_get g.nodes n ≡ Some (Choice mover set kids) → length kids ≤ 64
few_kids g rules n mover set kids h =
    let node = rules.each_node n (Choice mover set kids) h in
    let none : SetInfo = record { file = 0; actions = 0 } in
    let sets = sets_of mover g in
    omega (arith, node.1 (get_or sets set.0 none) (slice_get-get_or sets set.0 none node.0), (rules.each_set mover set.0 none node.0).1)

-- before the root nothing is met
pub started : (side : Side) (g : GameView) → IsGame g → (above : List (Option Move)) → above ≡ replicate (length g.nodes) None → IsProgress side g 0 above []
started side g rules above e = record {
  room = ap length e ∙ length-replicate (length g.nodes) None;
  in_order = rules.in_order side;
  moves = All-same (IsMoveBelow 0 (sets_of side g)) above (replicate (length g.nodes) None) e (All-replicate (IsMoveBelow 0 (sets_of side g)) (length g.nodes) None tt);
  earlier = λ set last h. absurd (cc);
}

-- behind the last node every set is met
pub all_met : (side : Side) (g : GameView) (n : ℕ) (above : List (Option Move)) (met : List Met) → IsProgress side g n above met → length g.nodes ≤ n → length met ≡ length (sets_of side g)
unfolding AreInOrder
all_met side g n above met p h =
    let Q : List Node → Type 0 = λ nodes. AreInOrder side (length met) nodes (length (sets_of side g)) in
    subst Q (drop_all n g.nodes h) p.in_order

-- what is known of one player's moves
pub record IsSideOf (side : Side) (g : GameView) (moves : List (Option Move)) : Type 0 where
  pub count : length moves ≡ length (sets_of side g)
  pub earlier : AreEarlier (sets_of side g) moves
  pub of_tree : AreOfTree side g moves
  pub perfect : HasRecall g side

-- the answers for both players are those of the game
pub recall_of : (g : GameView) (one two : List (Option Move)) → IsSideOf One g one → IsSideOf Two g two → IsRecallOf g (record { one = one; two = two })
recall_of g one two h k =
    let r : RecalledView = record { one = one; two = two } in
    let side_of : (side : Side) → IsSideOf side g (moves_of side r) = λ side. elim side as (λ s. IsSideOf s g (moves_of s r)) [ One ↦ h | Two ↦ k ] in
    record {
      per_set = λ side. (side_of side).count;
      earlier = λ side. (side_of side).earlier;
      of_tree = λ side. (side_of side).of_tree;
      perfect = λ side. (side_of side).perfect;
    }

-- an error that was handed on keeps what was said of it
pub error_named : {A E : Type 0} (r : Result A E) (x : E) (P : E → Type 0) → IsErrAnd r (λ e. e ≡ x) → P x → IfErr r P
error_named (Ok a) x P is h = absurd is
error_named (Err e) x P is h = rw is h
