-- One node more: where it names a set of the player, that set is one of those met, or it comes last; every other node
-- leaves the player's sets alone.
use Rattle.std.proofs.Common.{◌≡◌, ℕ, zero, suc, ◌+◌, ◌<◌, ◌≤◌, ◌^◌, max, List, [], ◌∷◌, ◌++◌, Option, Some, None, length, map, slice_get, refl, ap, sym, subst, ◌∙◌, arith}
use Rattle.std.specs.Prelude.{All, Result, Ok, Err, IfOk}
use Rattle.std.proofs.lemmas.List.{append-nil, map-append, length_push, length-map}
use Rattle.std.proofs.lemmas.List.Elements.{All-nil, All-cons, All-append, All-push, All-weaker}
use Rattle.std.proofs.lemmas.Option.{none-some, same_Some, slice_get_within}
use Rattle.corr_game.specs.declared.nodes.Node.{Node}
use Rattle.corr_game.specs.declared.nodes.SetInfo.{SetInfo}
use Rattle.corr_game.specs.declared.sides.Side.{Side}
use Rattle.corr_game.specs.declared.sides.Side.TheVariants.{One, Two}
use Rattle.corr_game.specs.Node.{set_at}
use Rattle.corr_game.specs.Sets.{AreInOrder, IsMetOrNext, met_with}
use Rattle.corr_game.proofs.SetCount.{count_at_most}
use Rattle.efg_reader.specs.declared.entry.Turn.{Turn}
use Rattle.efg_reader.specs.declared.entry.Turn.TheVariants.{Player}
use Rattle.efg_lines.specs.declared.node_line.LineKind.{LineKind}
use Rattle.efg_reader.specs.Turn.{IsTurnOf}
use Rattle.efg_reader.specs.declared.events.Bare.{Bare}
use Rattle.efg_reader.specs.declared.events.Event.{Event}
use Rattle.efg_reader.specs.declared.events.Event.TheVariants.{Leaf, Chance, Choice}
use Rattle.efg_reader.specs.declared.first_lists.FirstList.{FirstList}
use Rattle.efg_reader.specs.Event.{IsDraw}
use Rattle.efg_reader.specs.Sets.{info_of, turn_of, childless, IsDefined, met, first, HasActions, IsChoice, AreSetsOf}

pub if_ok : {A E : Type 0} (answer : Result A E) (P Q : A → Type 0) → IfOk answer P → ((x : A) → P x → Q x) → IfOk answer Q
if_ok (Ok x) P Q p weaker = weaker x p
if_ok (Err e) P Q p weaker = p

-- the sets stay, and the one with this index is there or comes last
record Grown (old : List (ℕ × FirstList)) (new : List (ℕ × FirstList)) (index : ℕ) : Type 0 where
  more : List (ℕ × FirstList)
  new_is : new ≡ old ++ more
  numbers : All (λ (entry : ℕ × FirstList). entry.0 < 2 ^ 31) more
  next : index ≤ length old
  count : max (length old) (index + 1) ≡ length new

grown : (old : List (ℕ × FirstList)) (set : ℕ) (list : Option FirstList) (new : List (ℕ × FirstList)) (index : ℕ) → set < 2 ^ 31 → IsDefined old set list new index → Grown old new index
grown old set list new index few (met own same) =
    let there : index < length old = omega (arith, slice_get_within (map (λ (entry : ℕ × FirstList). entry.0) old) index set own, length-map old (λ (entry : ℕ × FirstList). entry.0)) in
    record {
      more = [];
      new_is = same ∙ sym (append-nil old);
      numbers = All-nil (λ (entry : ℕ × FirstList). entry.0 < 2 ^ 31);
      next = omega arith;
      count = omega (arith, ap (λ (xs : List (ℕ × FirstList)). length xs) same);
    }
grown old set list new index few (first own is more at) = record {
  more = (set, own) ∷ [];
  new_is = more;
  numbers = All-cons (λ (entry : ℕ × FirstList). entry.0 < 2 ^ 31) (set, own) [] few (All-nil (λ (entry : ℕ × FirstList). entry.0 < 2 ^ 31));
  next = omega arith;
  count = omega (arith, ap (λ (xs : List (ℕ × FirstList)). length xs) more, length_push old (set, own));
}

slice_get-front : {A : Type 0} (xs ys : List A) (k : ℕ) (x : A) → slice_get xs k ≡ Some x → slice_get (xs ++ ys) k ≡ Some x
slice_get-front [] ys k x e = absurd (cc)
slice_get-front (z ∷ xs) ys zero x e = e
slice_get-front (z ∷ xs) ys (suc k) x e = slice_get-front xs ys k x e

-- a set that is there keeps its actions
actions-kept : (old new more : List (ℕ × FirstList)) (set kids : ℕ) → new ≡ old ++ more → HasActions (map info_of old) set kids → HasActions (map info_of new) set kids
actions-kept old new more set kids is has =
    let same : map info_of new ≡ map info_of old ++ map info_of more = ap (map info_of) is ∙ map-append info_of old more in
    (has.0, subst (λ (sets : List SetInfo). slice_get sets set ≡ Some has.0) (sym same) (slice_get-front (map info_of old) (map info_of more) set has.0 has.1), has.2)

-- the order of one node more
order-push : (side : Side) (so_far : ℕ) (nodes : List Node) (node : Node) (count next : ℕ) → AreInOrder side so_far nodes count → IsMetOrNext count (set_at side node) → met_with count (set_at side node) ≡ next → AreInOrder side so_far (nodes ++ node ∷ []) next
unfolding AreInOrder
order-push side so_far [] node count next order new more =
    subst (λ (n : ℕ). IsMetOrNext n (set_at side node) × (met_with n (set_at side node) ≡ next)) (sym order) (new, more)
order-push side so_far (x ∷ nodes) node count next order new more = (order.0, order-push side (met_with so_far (set_at side x)) nodes node count next order.1 new more)

order-turn : (side : Side) (turns : List (Event × ℕ)) (event : Event) (kids count next : ℕ) → AreInOrder side 0 (map (λ (turn : Event × ℕ). childless turn.0) turns) count
    → IsMetOrNext count (set_at side (childless event)) → met_with count (set_at side (childless event)) ≡ next
    → AreInOrder side 0 (map (λ (turn : Event × ℕ). childless turn.0) (turns ++ (event, kids) ∷ [])) next
order-turn side turns event kids count next order new more =
    subst (λ (nodes : List Node). AreInOrder side 0 nodes next) (sym (map-append (λ (turn : Event × ℕ). childless turn.0) turns ((event, kids) ∷ [])))
    (order-push side 0 (map (λ (turn : Event × ℕ). childless turn.0) turns) (childless event) count next order new more)

own_set : (side : Side) (index : ℕ) → set_at side (childless (Choice side (record { 0 = index }))) ≡ Some index
own_set One index = refl
own_set Two index = refl

-- no node names a set yet
pub no_sets : (side : Side) (nodes : List Bare) (lists : List (ℕ × FirstList)) → nodes ≡ [] → lists ≡ [] → AreSetsOf side (map turn_of nodes) lists
unfolding AreInOrder
no_sets side nodes lists none empty =
    rw (none, empty) record {
      actions = All-nil (λ (turn : Event × ℕ). (set : ℕ) → set_at side (childless turn.0) ≡ Some set → HasActions [] set turn.1);
      order = refl;
      numbers = All-nil (λ (entry : ℕ × FirstList). entry.0 < 2 ^ 31);
    }

-- a node that names no set of the player
pub sets_other : (side : Side) (turns : List (Event × ℕ)) (lists : List (ℕ × FirstList)) (event : Event) (kids : ℕ) → AreSetsOf side turns lists → set_at side (childless event) ≡ None → AreSetsOf side (turns ++ (event, kids) ∷ []) lists
sets_other side turns lists event kids sets none = record {
  actions = All-push (λ (turn : Event × ℕ). (set : ℕ) → set_at side (childless turn.0) ≡ Some set → HasActions (map info_of lists) set turn.1) turns (event, kids) sets.actions (λ set e. absurd (none-some set (sym none ∙ e)));
  order = order-turn side turns event kids (length lists) (length lists) sets.order (rw none tt) (rw none refl);
  numbers = sets.numbers;
}

-- a choice of the player
pub sets_choice : (side : Side) (turns : List (Event × ℕ)) (old new : List (ℕ × FirstList)) (set : ℕ) (list : Option FirstList) (event : Event) (kids : ℕ) → AreSetsOf side turns old → set < 2 ^ 31 → IsChoice side old set list new event kids → AreSetsOf side (turns ++ (event, kids) ∷ []) new
sets_choice side turns old new set list event kids sets few choice =
    let more = grown old set list new choice.index few choice.defined in
    let names : set_at side (childless event) ≡ Some choice.index = ap (λ (e : Event). set_at side (childless e)) choice.event_is ∙ own_set side choice.index in
    record {
      actions =
          All-push (λ (turn : Event × ℕ). (k : ℕ) → set_at side (childless turn.0) ≡ Some k → HasActions (map info_of new) k turn.1) turns (event, kids)
          (All-weaker (λ (turn : Event × ℕ). (k : ℕ) → set_at side (childless turn.0) ≡ Some k → HasActions (map info_of old) k turn.1)
          (λ (turn : Event × ℕ). (k : ℕ) → set_at side (childless turn.0) ≡ Some k → HasActions (map info_of new) k turn.1)
          (λ turn has k e. actions-kept old new more.more k turn.1 more.new_is (has k e)) turns sets.actions)
          (λ k e. subst (λ (s : ℕ). HasActions (map info_of new) s kids) (same_Some choice.index k (sym names ∙ e)) choice.actions);
      order = order-turn side turns event kids (length old) (length new) sets.order (rw names more.next) (rw names more.count);
      numbers = subst (λ (xs : List (ℕ × FirstList)). All (λ (entry : ℕ × FirstList). entry.0 < 2 ^ 31) xs) (sym more.new_is) (All-append (λ (entry : ℕ × FirstList). entry.0 < 2 ^ 31) old more.more sets.numbers more.numbers);
    }

-- a choice of the other player
pub choice_other : (side other : Side) (event : Event) (index : ℕ) → set_at side (childless (Choice other (record { 0 = index }))) ≡ None → event ≡ Choice other (record { 0 = index }) → set_at side (childless event) ≡ None
choice_other side other event index none is = ap (λ (e : Event). set_at side (childless e)) is ∙ none

-- a draw
pub draw_other : (side : Side) (event : Event) → IsDraw event → set_at side (childless event) ≡ None
draw_other side Leaf draw = refl
draw_other side (Chance probs) draw = refl
draw_other side (Choice mover set) draw = absurd draw

-- no more sets than nodes
pub few_sets : (side : Side) (nodes : List Bare) (lists : List (ℕ × FirstList)) → AreSetsOf side (map turn_of nodes) lists → length lists ≤ length nodes
few_sets side nodes lists sets =
    let turns = map turn_of nodes in
    omega (arith, count_at_most side 0 (map (λ (turn : Event × ℕ). childless turn.0) turns) (length lists) sets.order, length-map turns (λ (turn : Event × ℕ). childless turn.0), length-map nodes turn_of)

-- what a turn says of the number of a player's set
pub set_number : (line : LineKind) (it : Turn) (player set : ℕ) → IsTurnOf line it → it ≡ Player player set → set < 2 ^ 31
set_number line it player set of is = subst (IsTurnOf line) is of

module _ {E : Type 0} (turns : List (Event × ℕ)) (answer : Result (Event × ℕ) E) where
  -- the sets of a player whose choice it is
  pub own_choice : (side : Side) (old new : List (ℕ × FirstList)) (set : ℕ) (list : Option FirstList) → AreSetsOf side turns old → set < 2 ^ 31 → IfOk answer (λ it. IsChoice side old set list new it.0 it.1) → IfOk answer (λ it. AreSetsOf side (turns ++ it ∷ []) new)
  own_choice side old new set list sets few choice = if_ok answer (λ it. IsChoice side old set list new it.0 it.1) (λ it. AreSetsOf side (turns ++ it ∷ []) new) choice (λ it own. sets_choice side turns old new set list it.0 it.1 sets few own)

  -- the sets of player 1 at a choice of player 2
  pub one_at_two : (sets_one old new : List (ℕ × FirstList)) (set : ℕ) (list : Option FirstList) → AreSetsOf One turns sets_one → IfOk answer (λ it. IsChoice Two old set list new it.0 it.1) → IfOk answer (λ it. AreSetsOf One (turns ++ it ∷ []) sets_one)
  one_at_two sets_one old new set list sets choice =
      if_ok answer (λ it. IsChoice Two old set list new it.0 it.1) (λ it. AreSetsOf One (turns ++ it ∷ []) sets_one) choice
      (λ it own. sets_other One turns sets_one it.0 it.1 sets (choice_other One Two it.0 own.index refl own.event_is))

  -- the sets of player 2 at a choice of player 1
  pub two_at_one : (sets_two old new : List (ℕ × FirstList)) (set : ℕ) (list : Option FirstList) → AreSetsOf Two turns sets_two → IfOk answer (λ it. IsChoice One old set list new it.0 it.1) → IfOk answer (λ it. AreSetsOf Two (turns ++ it ∷ []) sets_two)
  two_at_one sets_two old new set list sets choice =
      if_ok answer (λ it. IsChoice One old set list new it.0 it.1) (λ it. AreSetsOf Two (turns ++ it ∷ []) sets_two) choice
      (λ it own. sets_other Two turns sets_two it.0 it.1 sets (choice_other Two One it.0 own.index refl own.event_is))

  -- the sets of a player at a draw
  pub at_draw : (side : Side) (lists : List (ℕ × FirstList)) → AreSetsOf side turns lists → IfOk answer (λ it. IsDraw it.0) → IfOk answer (λ it. AreSetsOf side (turns ++ it ∷ []) lists)
  at_draw side lists sets draw = if_ok answer (λ it. IsDraw it.0) (λ it. AreSetsOf side (turns ++ it ∷ []) lists) draw (λ it own. sets_other side turns lists it.0 it.1 sets (draw_other side it.0 own))
