-- Values that nodes hand down to their kids, from the root on. Before node n a fact of the tree holds of the root's value
-- and of those of the kids of all nodes gone over, so of node n's. One node on it still does: the node's kids are kids of
-- no other node, so each has what that node gives it, and no other value changes.
use Rattle.std.proofs.Common.{◌≡◌, ℕ, ◌+◌, ◌<◌, ◌≤◌, List, Some, length, get_or, slice_get, slice_index, sym, subst, inl, inr, arith}
use Rattle.std.proofs.lemmas.Bool.{cases_lt}
use Rattle.std.proofs.lemmas.Option.{get_or_from_slice_get, slice_get-get_or, slice_get_within}
use Rattle.corr_game.specs.declared.nodes.Node.{Node}
use Rattle.corr_game.specs.Node.{kids_of}
use Rattle.corr_game.specs.Game.{GameView, IsGame}
use Rattle.tree_recall.specs.Tree.{kid_of}
use Rattle.tree_recall.specs.LastMove.{IsHandedOn}
use Rattle.tree_recall.proofs.Kids.{kid_below, one_parent, has_parent}

pub record IsDown {X : Type 0} (T : ℕ → X → Type 0) (none : X) (g : GameView) (n : ℕ) (values : List X) : Type 0 where
  pub root : T 0 (get_or values 0 none)
  pub kids : (m action k : ℕ) → m < n → kid_of g m action ≡ Some k → T k (get_or values k none)

pub down_at : {X : Type 0} (T : ℕ → X → Type 0) (none : X) (g : GameView) → IsGame g → (n m : ℕ) (values : List X) → IsDown T none g n values → m ≤ n → m < length g.nodes → T m (get_or values m none)
down_at T none g rules n m values d before room = elim (cases_lt 0 m) [
  | inl low ↦
      let over = has_parent g rules m low room in
      let behind = kid_below g rules over.0 over.1 m over.2 in
      d.kids over.0 over.1 m (omega (arith, behind.0)) over.2
  | inr root ↦ let same : m ≡ 0 = omega arith in rw same d.root
]

pub down_here : {X : Type 0} (T : ℕ → X → Type 0) (none : X) (g : GameView) → IsGame g → (n : ℕ) (values : List X) → IsDown T none g n values → n < length g.nodes → T n (get_or values n none)
down_here T none g rules n values d room = down_at T none g rules n n values d (omega arith) room

-- a kid of the node at n by its place among the kids
kid_at : (g : GameView) (n : ℕ) (node : Node) → slice_get g.nodes n ≡ Some node → (action k : ℕ) → action < length (kids_of node) → slice_index (kids_of node) action ≡ k → kid_of g n action ≡ Some k
kid_at g n node h action k low e = let there = slice_get-get_or (kids_of node) action 0 low in rw h (rw e at there)

module _ {X : Type 0} (g : GameView) (rules : IsGame g) (n : ℕ) (node : Node) (h : slice_get g.nodes n ≡ Some node) (given : ℕ → X) where
  -- what a kid is given
  given_to : (action k : ℕ) (old new : X) → kid_of g n action ≡ Some k → IsHandedOn (kids_of node) given (length (kids_of node)) k old new → new ≡ given action
  given_to action k old new e each =
      let there : slice_get (kids_of node) action ≡ Some k = rw h at e in
      elim each [
        | inl handed ↦
            let same = one_parent g rules n n handed.0 action k (kid_at g n node h handed.0 k handed.1 handed.2) e in
            rw (← same.1) handed.3
        | inr kept ↦ absurd (kept.0 action (slice_get_within (kids_of node) action k there) (get_or_from_slice_get (kids_of node) action k 0 there))
      ]

  -- what is no kid keeps what it had
  kept_at : (k : ℕ) (old new : X) → ((action : ℕ) → kid_of g n action ≡ Some k → ⊥) → IsHandedOn (kids_of node) given (length (kids_of node)) k old new → new ≡ old
  kept_at k old new apart each = elim each [
    | inl handed ↦ absurd (apart handed.0 (kid_at g n node h handed.0 k handed.1 handed.2))
    | inr kept ↦ kept.1
  ]

  pub down_next : (T : ℕ → X → Type 0) (none : X) (old new : List X) → IsDown T none g n old
      → ((action k : ℕ) → kid_of g n action ≡ Some k → T k (given action))
      → ((k : ℕ) → IsHandedOn (kids_of node) given (length (kids_of node)) k (get_or old k none) (get_or new k none))
      → IsDown T none g (n + 1) new
  down_next T none old new d gift each = record {
    root =
        let same = kept_at 0 _ _ (λ action e. (let kid = kid_below g rules n action 0 e in omega arith)) (each 0) in
        subst (T 0) (sym same) d.root;
    kids = λ m action k low e. elim (cases_lt m n) [
      | inl before ↦
          let same = kept_at k _ _ (λ b f. (let one = one_parent g rules m n action b k e f in omega arith)) (each k) in
          subst (T k) (sym same) (d.kids m action k before e)
      | inr last ↦
          let same : m ≡ n = omega arith in
          let at : kid_of g n action ≡ Some k = rw (← same) e in
          subst (T k) (sym (given_to action k _ _ at (each k))) (gift action k at)
    ];
  }
