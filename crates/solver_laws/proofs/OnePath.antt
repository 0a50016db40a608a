-- Nodes above one node are one of two above the other, so that sets with nodes on one path are connected.
use Rattle.std.proofs.Common.{◌≡◌, ◌⊎◌, ◌↔◌, inl, inr, ℕ, ◌<◌, ◌≤◌, length, ap, arith, List, [], ◌∷◌, Some, refl, sym, subst, ◌∙◌}
use Rattle.corr_game.specs.declared.nodes.Node.{Node}
use Rattle.corr_game.specs.declared.nodes.Node.TheVariants.{Leaf, Chance, Choice}
use Rattle.corr_game.specs.declared.nodes.SetId.{SetId}
use Rattle.corr_game.specs.declared.sides.Side.{Side}
use Rattle.corr_game.specs.declared.sides.Side.TheVariants.{One, Two}
use Rattle.corr_game.specs.Game.{GameView, IsGame}
use Rattle.corr_game.specs.Node.{set_at}
use Rattle.tree_recall.proofs.Kids.{above_joined, comparable, kid_below, set_node}
use Rattle.tree_recall.proofs.OwnSequences.{has_own, made_above, own_of_kid, own_same}
use Rattle.tree_recall.specs.OwnSequence.{HasRecall, IsOwnAt}
use Rattle.tree_recall.specs.Tree.{IsAbove, further, kid_of, parent, set_of}
use Rattle.connected_pairs.specs.Table.{AreConnected}
use Rattle.plain_trees.specs.Meeting.{IsMetFrom}
use Rattle.plain_trees.specs.Relevant.{AreRelevant}
use Rattle.plain_trees.specs.Siblings.{HasSequenceOf, HaveOwnAlike}

abbrev Moves : Type 0
Moves = List (SetId × ℕ)

pub met_from_above : (g : GameView) (m n two : ℕ) → IsGame g → IsAbove g m n → IsMetFrom g n two
    → IsMetFrom g m two ⊎ (set_of g Two m ≡ Some two)
met_from_above g m n two rules up met = elim met.2 [
  | inl down ↦ inl (met.0, met.1, inl (above_joined g rules m n met.0 up down))
  | inr over ↦ elim (comparable g rules m met.0 n up over) [
    | inl same ↦ inr (rw same met.1)
    | inr apart ↦ inl (met.0, met.1, apart)
  ]
]

pub connected_met : (g : GameView) (one two : ℕ) → AreConnected g one two
    ↔ ((m : ℕ) × (set_of g One m ≡ Some one) × IsMetFrom g m two)
connected_met g one two = (
  λ both. (both.0, both.2, (both.1, both.3, both.4)),
  λ met. (met.0, met.2.0, met.1, met.2.1, met.2.2),
)

one_mover_at : (node : Node) (a b : ℕ) → set_at One node ≡ Some a → set_at Two node ≡ Some b → ⊥
one_mover_at (Leaf pay) a b e f = cc
one_mover_at (Chance kids) a b e f = cc
one_mover_at (Choice One set kids) a b e f = cc
one_mover_at (Choice Two set kids) a b e f = cc

-- one player moves at a node
one_mover : (g : GameView) (n a b : ℕ) → set_of g One n ≡ Some a → set_of g Two n ≡ Some b → ⊥
one_mover g n a b e f =
    let at = (set_node g One n a e).1 in
    one_mover_at at.0 a b at.2 (rw at.1 at f)

-- sets with nodes above one node are connected
on_one_path : (g : GameView) → IsGame g → (n l m a b : ℕ) → IsAbove g l n → set_of g One l ≡ Some a → IsAbove g m n
    → set_of g Two m ≡ Some b → AreConnected g a b
on_one_path g rules n l m a b up e over f = elim (comparable g rules l m n up over) [
  | inl same ↦ absurd (one_mover g m a b (rw same at e) f)
  | inr apart ↦ (l, m, e, f, apart)
]

pub own_relevant : (g : GameView) (n : ℕ) (one two : Moves) → IsGame g → IsOwnAt g One n one → IsOwnAt g Two n two
    → AreRelevant g one two
own_relevant g n [] two rules a b = tt
own_relevant g n (x ∷ before) [] rules a b = tt
own_relevant g n (x ∷ before) (y ∷ earlier) rules a b =
    let l = made_above g One n (x ∷ before) a x before refl in
    let m = made_above g Two n (y ∷ earlier) b y earlier refl in
    on_one_path g rules n l.0 m.0 x.0.0 y.0.0 l.1 l.2 m.1 m.2

-- with perfect recall the move before the latest was made above each node of the latest one's set
made_before : (g : GameView) (side : Side) → IsGame g → HasRecall g side → (n p : ℕ) (x y : SetId × ℕ) (before : Moves)
    → IsOwnAt g side n (x ∷ y ∷ before) → set_of g side p ≡ Some x.0.0 → (l : ℕ) × IsAbove g l p × (set_of g side l ≡ Some y.0.0)
unfolding HasRecall
made_before g side rules recall n p x y before own at =
    let m = made_above g side n (x ∷ y ∷ before) own x (y ∷ before) refl in
    let there = has_own g rules side p (set_node g side p x.0.0 at).0 in
    let same = recall p m.0 x.0.0 there.0 (y ∷ before) at m.2 there.1 m.3 in
    let l = made_above g side p there.0 there.1 y before same in
    (l.0, l.1, l.2)

pub relevant_back_one : (g : GameView) (n : ℕ) (x : SetId × ℕ) (before two : Moves) → IsGame g → HasRecall g One
    → IsOwnAt g One n (x ∷ before) → AreRelevant g (x ∷ before) two → AreRelevant g before two
relevant_back_one g n x [] two rules recall own h = tt
relevant_back_one g n x (y ∷ before) [] rules recall own h = tt
relevant_back_one g n x (y ∷ before) (z ∷ earlier) rules recall own h =
    let l = made_before g One rules recall n h.0 x y before own h.2 in
    elim h.4 [
      | inl down ↦ (l.0, h.1, l.2, h.3, inl (above_joined g rules l.0 h.0 h.1 l.1 down))
      | inr over ↦ on_one_path g rules h.0 l.0 h.1 y.0.0 z.0.0 l.1 l.2 over h.3
    ]

pub relevant_back_two : (g : GameView) (n : ℕ) (x : SetId × ℕ) (one before : Moves) → IsGame g → HasRecall g Two
    → IsOwnAt g Two n (x ∷ before) → AreRelevant g one (x ∷ before) → AreRelevant g one before
relevant_back_two g n x [] before rules recall own h = tt
relevant_back_two g n x (z ∷ earlier) [] rules recall own h = tt
relevant_back_two g n x (z ∷ earlier) (y ∷ before) rules recall own h =
    let l = made_before g Two rules recall n h.1 x y before own h.3 in
    elim h.4 [
      | inl down ↦ on_one_path g rules h.1 h.0 l.0 z.0.0 y.0.0 down h.2 l.1 l.2
      | inr over ↦ (h.0, l.0, h.2, l.2, inr (above_joined g rules l.0 h.1 h.0 l.1 over))
    ]

-- the own sequence at a node is no longer than at nodes below, and shorter where the player moves at the node
longer_at_kid : (g : GameView) (side : Side) → IsGame g → (m action n : ℕ) (a b : Moves) → kid_of g m action ≡ Some n
    → IsOwnAt g side m a → IsOwnAt g side n b → length a ≤ length b
longer_at_kid g side rules m action n a b e own_a own_b =
    let parts = own_of_kid g rules side m action n e b own_b in
    let same = own_same g rules side m a parts.0 own_a parts.1 in
    elim parts.2 [
      | inl own ↦ omega (arith, ap (λ (x : Moves). length x) same, ap (λ (x : Moves). length x) own.2)
      | inr other ↦ omega (arith, ap (λ (x : Moves). length x) same, ap (λ (x : Moves). length x) other.1)
    ]

longer_below : (g : GameView) (side : Side) → IsGame g → (m n set : ℕ) (a b : Moves) → set_of g side m ≡ Some set → IsAbove g m n
    → IsOwnAt g side m a → IsOwnAt g side n b → length a < length b
longer_below g side rules m _ set a b at (parent action n e) own_a own_b =
    let parts = own_of_kid g rules side m action n e b own_b in
    let same = own_same g rules side m a parts.0 own_a parts.1 in
    elim parts.2 [
      | inl own ↦ omega (arith, ap (λ (x : Moves). length x) same, ap (λ (x : Moves). length x) own.2)
      | inr other ↦ absurd (cc (at, other.0))
    ]
longer_below g side rules m _ set a b at (further between action n up e) own_a own_b =
    let mid = has_own g rules side between (kid_below g rules between action n e).2 in
    let first = longer_below g side rules m between set a mid.0 at up own_a mid.1 in
    let rest = longer_at_kid g side rules between action n mid.0 b e mid.1 own_b in
    omega arith

recalled_apart : (g : GameView) (side : Side) → IsGame g → HasRecall g side → (m n set : ℕ) → set_of g side m ≡ Some set
    → set_of g side n ≡ Some set → IsAbove g m n → ⊥
unfolding HasRecall
recalled_apart g side rules recall m n set e f up =
    let a = has_own g rules side m (set_node g side m set e).0 in
    let b = has_own g rules side n (set_node g side n set f).0 in
    let same = recall m n set a.0 b.0 e f a.1 b.1 in
    let longer = longer_below g side rules m n set a.0 b.0 e up a.1 b.1 in
    omega (arith, ap (λ (x : Moves). length x) same)

pub not_met_from_own : (g : GameView) (m two : ℕ) → IsGame g → HasRecall g Two → set_of g Two m ≡ Some two → IsMetFrom g m two → ⊥
not_met_from_own g m two rules recall at met = elim met.2 [
  | inl down ↦ recalled_apart g Two rules recall m met.0 two at met.1 down
  | inr over ↦ recalled_apart g Two rules recall met.0 m two met.1 at over
]

pub alike_on : (g : GameView) (side : Side) (m n other : ℕ) → IsGame g → HaveOwnAlike g side m n → HaveOwnAlike g side n other
    → HaveOwnAlike g side m other
alike_on g side m n other rules a b =
    let P : Moves → Type 0 = IsOwnAt g side other in
    (a.0, a.1, subst P (own_same g rules side n b.0 a.0 b.1 a.2) b.2)

-- with perfect recall two nodes of a set have one own sequence
recalled : (g : GameView) (side : Side) → IsGame g → HasRecall g side → (m n set : ℕ) → set_of g side m ≡ Some set
    → set_of g side n ≡ Some set → HaveOwnAlike g side m n
unfolding HasRecall
recalled g side rules recall m n set e f =
    let a = has_own g rules side m (set_node g side m set e).0 in
    let b = has_own g rules side n (set_node g side n set f).0 in
    let P : Moves → Type 0 = IsOwnAt g side n in
    (a.0, a.1, subst P (sym (recall m n set a.0 b.0 e f a.1 b.1)) b.1)

pub recall_exactly : (g : GameView) (side : Side) → IsGame g
    → HasRecall g side ↔ ((m n set : ℕ) → set_of g side m ≡ Some set → set_of g side n ≡ Some set → HaveOwnAlike g side m n)
unfolding HasRecall
recall_exactly g side rules = (
  λ recall. recalled g side rules recall,
  λ alike m n set a b e f own_a own_b.
      let both = alike m n set e f in
      own_same g rules side m a both.0 own_a both.1 ∙ own_same g rules side n both.0 b both.2 own_b,
)

pub own_of_set : (g : GameView) (side : Side) (m set : ℕ) → IsGame g → set_of g side m ≡ Some set → HasSequenceOf g side m set
own_of_set g side m set rules e =
    let a = has_own g rules side m (set_node g side m set e).0 in
    (m, e, (a.0, a.1, a.1))

pub each_of_set : (g : GameView) (side : Side) (m set n : ℕ) → IsGame g → HasRecall g side → HasSequenceOf g side m set
    → set_of g side n ≡ Some set → HaveOwnAlike g side m n
each_of_set g side m set n rules recall has e =
    alike_on g side m has.0 n rules has.2 (recalled g side rules recall has.0 n set has.1 e)
