-- A plan leads to a set exactly where it plays the own sequence of one of the set's nodes: down from the root what holds at
-- a node is handed
-- to the kid at which the walk goes on, and up from the set's node the walk is made longer move by move.
use Rattle.std.proofs.Common.{◌≡◌, ◌↔◌, ℕ, zero, suc, ◌+◌, ◌<◌, ◌≤◌, inl, inr, Bool, true, false, cond, ◌&&◌, List, [], ◌∷◌}
use Rattle.std.proofs.Common.{Option, Some, None, length, slice_get, refl, sym, ap, subst, ◌∙◌, arith}
use Rattle.std.proofs.lemmas.Bool.{cases_Bool, eq-eqb, eqb-true, or_left, or_right}
use Rattle.corr_game.specs.declared.nodes.Node.{Node}
use Rattle.corr_game.specs.declared.nodes.Node.TheVariants.{Leaf, Chance, Choice}
use Rattle.corr_game.specs.declared.nodes.SetId.{SetId}
use Rattle.corr_game.specs.declared.sides.Side.{Side}
use Rattle.corr_game.specs.Game.{GameView, IsGame}
use Rattle.corr_game.specs.Node.{kids_of, same_side, set_at}
use Rattle.corr_game.proofs.Rows.{found}
use Rattle.tree_recall.specs.OwnSequence.{HasRecall, IsOwnAt, at_root, other_move, own_move}
use Rattle.tree_recall.specs.Tree.{kid_of, kid_there, set_of, set_there}
use Rattle.tree_recall.proofs.Kids.{kid_below, set_node}
use Rattle.equilibrium.specs.OwnSequence.{PlaysMoves, PlaysOwn}
use Rattle.equilibrium.specs.Reach.{allows, comes_step, comes_to, is_set, leads, names, some_kid}
use Rattle.equilibrium.proofs.Coming.{comes_to-node, some_kid-at}

pub first_true : (a b : Bool) → (a && b) ≡ true → a ≡ true
first_true true b h = refl
first_true false b h = absurd (cc)

pub second_true : (a b : Bool) → (a && b) ≡ true → b ≡ true
second_true true b h = h
second_true false b h = absurd (cc)

pub is_set-same : (set : ℕ) (there : Option ℕ) → is_set set there ≡ true → there ≡ Some set
is_set-same set None h = absurd (cc)
is_set-same set (Some at) h = ap (λ (n : ℕ). Some n) (eqb-true at set h)

pub is_set-here : (set : ℕ) (there : Option ℕ) → there ≡ Some set → is_set set there ≡ true
is_set-here set there h = rw h (eq-eqb set set refl)

-- some kid is an allowed one that has the property
pub some_kid-found : (allowed has : ℕ → Bool) (first : ℕ) (kids : List ℕ) → some_kid allowed has first kids ≡ true
    → (k : ℕ) × (kid : ℕ) × (slice_get kids k ≡ Some kid) × (allowed (first + k) ≡ true) × (has kid ≡ true)
some_kid-found allowed has first [] h = absurd (cc)
some_kid-found allowed has first (x ∷ xs) h = elim (cases_Bool (allowed first && has x)) [
  | inl e ↦
      let at : first + 0 ≡ first = omega arith in
      (0, x, refl, rw at (first_true (allowed first) (has x) e), second_true (allowed first) (has x) e)
  | inr e ↦
      let rest = some_kid-found allowed has (first + 1) xs (rw e at h) in
      let at : first + suc rest.0 ≡ first + 1 + rest.0 = omega arith in
      (suc rest.0, rest.1, rest.2, rw at rest.3, rest.4)
]

-- what a node hands to each kid to which an allowed action leads
abbrev pub HandsOn : (Node → ℕ → Bool) → GameView → (ℕ → Type 0) → Type 0
HandsOn allowed g P = (n action kid : ℕ) (node : Node) → slice_get g.nodes n ≡ Some node → allowed node action ≡ true
    → slice_get (kids_of node) action ≡ Some kid → P n → P kid

pub kid_inside : (g : GameView) → IsGame g → (n action kid : ℕ) (node : Node) → slice_get g.nodes n ≡ Some node
    → slice_get (kids_of node) action ≡ Some kid
    → (n < kid) × (kid < length g.nodes)
kid_inside g rules n action kid node there e =
    let kid_is : kid_of g n action ≡ Some kid = ap (kid_there action) there ∙ e in
    let low = kid_below g rules n action kid kid_is in
    (low.0, low.1)

-- what holds at a node from which one comes to a set, and is handed on, holds at some node of the set
pub handed_down : (allowed : Node → ℕ → Bool) (side : Side) (g : GameView) (rules : IsGame g) (set : ℕ) (P : ℕ → Type 0)
    → HandsOn allowed g P → (left n : ℕ)
    → length g.nodes ≤ n + left → n < length g.nodes → P n → comes_to allowed side g set n ≡ true
    → (m : ℕ) × (set_of g side m ≡ Some set) × P m
handed_down allowed side g rules set P hands zero n bound low here comes = absurd (omega arith)
handed_down allowed side g rules set P hands (suc left) n bound low here comes =
    let at = found g.nodes n low in
    let node = at.0 in
    let steps : comes_step allowed side set node (comes_to allowed side g set) ≡ true = sym
    (comes_to-node allowed side g rules set n node at.1) ∙ comes in
    elim (cases_Bool (is_set set (set_at side node))) [
      | inl e ↦ (n, ap (set_there side) at.1 ∙ is_set-same set (set_at side node) e, here)
      | inr e ↦
          let kid = some_kid-found (allowed node) (comes_to allowed side g set) 0 (kids_of node) (rw e at steps) in
          let action : 0 + kid.0 ≡ kid.0 = omega arith in
          let inside = kid_inside g rules n kid.0 kid.1 node at.1 kid.2 in
          handed_down allowed side g rules set P hands left kid.1 (omega arith) inside.1
          (hands n kid.0 kid.1 node at.1 (rw action at kid.3) kid.2 here) kid.4
    ]

-- from a node one comes to a set where one does so from a kid to which an allowed action leads
pub comes_from_kid : (allowed : Node → ℕ → Bool) (side : Side) (g : GameView) → IsGame g → (set n action kid : ℕ) (node : Node)
    → slice_get g.nodes n ≡ Some node
    → slice_get (kids_of node) action ≡ Some kid → allowed node action ≡ true → comes_to allowed side g set kid ≡ true
    → comes_to allowed side g set n ≡ true
comes_from_kid allowed side g rules set n action kid node there e a comes =
    comes_to-node allowed side g rules set n node there
    ∙ or_right (is_set set (set_at side node)) _ (some_kid-at (allowed node) (comes_to allowed side g set) 0
    (kids_of node) action action kid (omega arith) e a comes)

pub comes_here : (allowed : Node → ℕ → Bool) (side : Side) (g : GameView) → IsGame g → (set n : ℕ) → set_of g side n ≡ Some set
    → comes_to allowed side g set n ≡ true
comes_here allowed side g rules set n h =
    let at = set_node g side n set h in
    comes_to-node allowed side g rules set n at.1.0 at.1.1
    ∙ or_left (is_set set (set_at side at.1.0)) _ (is_set-here set (set_at side at.1.0) at.1.2)

-- ---- the actions that a plan allows, and own moves

own_allows : (b : Bool) (s set action : ℕ) (entry : ℕ → Option (Option ℕ)) → cond b (Some s) None ≡ Some set
    → entry set ≡ Some (Some action)
    → cond b (names action (entry s)) true ≡ true
own_allows true s set action entry e named =
    let same : s ≡ set = cc in
    rw (same, named) (eq-eqb action action refl)
own_allows false s set action entry e named = refl

other_allows : (b : Bool) (s : ℕ) (named : Bool) → cond b (Some s) None ≡ None → cond b named true ≡ true
other_allows true s named e = absurd (cc)
other_allows false s named e = refl

-- a plan allows the own move that it names, and each move of chance and of the other player
allows_own : (side : Side) (plan : List (Option ℕ)) (node : Node) (set action : ℕ) → set_at side node ≡ Some set
    → slice_get plan set ≡ Some (Some action)
    → allows side plan node action ≡ true
allows_own side plan (Leaf pay) set action e named = refl
allows_own side plan (Chance kids) set action e named = refl
allows_own side plan (Choice mover at kids) set action e named = own_allows (same_side side mover) at.0 set action (slice_get plan) e named

allows_other : (side : Side) (plan : List (Option ℕ)) (node : Node) (action : ℕ) → set_at side node ≡ None
    → allows side plan node action ≡ true
allows_other side plan (Leaf pay) action e = refl
allows_other side plan (Chance kids) action e = refl
allows_other side plan (Choice mover at kids) action e = other_allows (same_side side mover) at.0 (names action (slice_get plan at.0)) e

pub names_is : (action : ℕ) (entry : Option (Option ℕ)) → names action entry ≡ true → entry ≡ Some (Some action)
names_is action None h = absurd (cc)
names_is action (Some None) h = absurd (cc)
names_is action (Some (Some named)) h = ap (λ (n : ℕ). Some (Some n)) (eqb-true named action h)

own_named : (b : Bool) (s set action : ℕ) (entry : ℕ → Option (Option ℕ)) → cond b (Some s) None ≡ Some set
    → cond b (names action (entry s)) true ≡ true
    → entry set ≡ Some (Some action)
own_named true s set action entry e h =
    let same : s ≡ set = cc in
    rw same at (names_is action (entry s) h)
own_named false s set action entry e h = absurd (cc)

-- where a plan allows an own move it names it
names_own : (side : Side) (plan : List (Option ℕ)) (node : Node) (set action : ℕ) → set_at side node ≡ Some set
    → allows side plan node action ≡ true
    → slice_get plan set ≡ Some (Some action)
names_own side plan (Leaf pay) set action e h = absurd (cc)
names_own side plan (Chance kids) set action e h = absurd (cc)
names_own side plan (Choice mover at kids) set action e h = own_named (same_side side mover) at.0 set action (slice_get plan) e h

-- an own sequence whose moves a plan names
abbrev Named : Side → GameView → List (Option ℕ) → ℕ → Type 0
Named side g plan n = (seq : List (SetId × ℕ)) × IsOwnAt g side n seq × PlaysMoves plan seq

named_on : (side : Side) (g : GameView) (plan : List (Option ℕ)) (n action kid : ℕ) (node : Node)
    → slice_get g.nodes n ≡ Some node → allows side plan node action ≡ true
    → slice_get (kids_of node) action ≡ Some kid → Named side g plan n → (there : Option ℕ) → set_at side node ≡ there
    → Named side g plan kid
named_on side g plan n action kid node at a e before None f =
    (before.0, other_move n action kid before.0 before.1 (ap (set_there side) at ∙ f) (ap (kid_there action) at ∙ e), before.2)
named_on side g plan n action kid node at a e before (Some set) f =
    let id : SetId = record { 0 = set } in (
      (id, action) ∷ before.0,
      own_move n action kid id before.0 before.1 (ap (set_there side) at ∙ f)
          (ap (kid_there action) at ∙ e),
      (names_own side plan node set action f a, before.2),
    )

pub leads_plays : (side : Side) (g : GameView) → IsGame g → (plan : List (Option ℕ)) (set : ℕ) → leads side g plan set ≡ true
    → PlaysOwn side g plan set
leads_plays side g rules plan set h =
    let hands : HandsOn (allows side plan) g (Named side g plan) = λ n action kid node at a e before. named_on side g plan n action kid node at a e before (set_at side node) refl in
    let end = handed_down (allows side plan) side g rules set (Named side g plan) hands (length g.nodes) 0
    (omega arith) rules.has_root ([], at_root, tt) h in
    (end.0, end.2.0, end.1, end.2.1, end.2.2)

pub node_there : (side : Side) (nodes : List Node) (n action kid : ℕ) → kid_there action (slice_get nodes n) ≡ Some kid
    → (node : Node) × (slice_get nodes n ≡ Some node) × (slice_get (kids_of node) action ≡ Some kid)
node_there side [] n action kid h = absurd (cc)
node_there side (node ∷ nodes) zero action kid h = (node, refl, h)
node_there side (node ∷ nodes) (suc n) action kid h = node_there side nodes n action kid h

-- up from a node whose own sequence a plan plays
comes_from_root : (side : Side) (g : GameView) → IsGame g → (plan : List (Option ℕ)) (set n : ℕ) (seq : List (SetId × ℕ))
    → IsOwnAt g side n seq → PlaysMoves plan seq
    → comes_to (allows side plan) side g set n ≡ true → leads side g plan set ≡ true
comes_from_root side g rules plan set _ _ at_root plays comes = comes
comes_from_root side g rules plan set _ _ (own_move m action n id before own f k) plays comes =
    let at = node_there side g.nodes m action n k in
    let set_is : set_at side at.0 ≡ Some id.0 = sym (ap (set_there side) at.1) ∙ f in
    comes_from_root side g rules plan set m before own plays.1
    (comes_from_kid (allows side plan) side g rules set m action n at.0 at.1 at.2
    (allows_own side plan at.0 id.0 action set_is plays.0) comes)
comes_from_root side g rules plan set _ _ (other_move m action n before own f k) plays comes =
    let at = node_there side g.nodes m action n k in
    let set_is : set_at side at.0 ≡ None = sym (ap (set_there side) at.1) ∙ f in
    comes_from_root side g rules plan set m before own plays
    (comes_from_kid (allows side plan) side g rules set m action n at.0 at.1 at.2 (allows_other side plan at.0 action set_is) comes)

pub plays_leads : (side : Side) (g : GameView) → IsGame g → (plan : List (Option ℕ)) (set : ℕ) → PlaysOwn side g plan set
    → leads side g plan set ≡ true
plays_leads side g rules plan set own = comes_from_root side g rules plan set own.0 own.1 own.3 own.4
    (comes_here (allows side plan) side g rules set own.0 own.2)

-- with recall the sequence is that of whichever node of the set
pub leads_by_recall : (side : Side) (g : GameView) → IsGame g → HasRecall g side
    → (plan : List (Option ℕ)) (n set : ℕ) (seq : List (SetId × ℕ)) → set_of g side n ≡ Some set
    → IsOwnAt g side n seq → (leads side g plan set ≡ true) ↔ PlaysMoves plan seq
unfolding HasRecall
leads_by_recall side g rules recall plan n set seq at own = (
  λ h.
      let some = leads_plays side g rules plan set h in
      let Plays : List (SetId × ℕ) → Type 0 = λ moves. PlaysMoves plan moves in
      subst Plays (recall some.0 n set some.1 seq some.2 at some.3 own) some.4,
  λ plays. plays_leads side g rules plan set (n, seq, at, own, plays),
)
