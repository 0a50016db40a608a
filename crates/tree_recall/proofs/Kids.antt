-- Kids and the nodes above, by numbers: the subtrees of a node's kids lie side by side within its own, so a node is
-- above another exactly where that one's number lies in its subtree, and each node is a kid of one node at most.
use Rattle.std.proofs.Common.{◌≡◌, ℕ, ◌+◌, ◌<◌, ◌≤◌, ◌⊎◌, suc, zero, List, [], ◌∷◌, Option, Some, None, length, slice_get, refl, inl, inr, arith}
use Rattle.std.proofs.lemmas.Bool.{cases_lt}
use Rattle.corr_game.specs.declared.nodes.Node.{Node}
use Rattle.corr_game.specs.declared.sides.Side.{Side}
use Rattle.corr_game.specs.Node.{kids_of, set_at}
use Rattle.corr_game.specs.Preorder.{row_end, InRow, end_of}
use Rattle.corr_game.specs.Game.{GameView, IsGame, AreBehind}
use Rattle.corr_game.proofs.Rows.{behind-tail, behind_at, kids_behind, kid_in_row, end_of-node, found, rises, Rises}
use Rattle.tree_recall.specs.Tree.{set_of, set_there, kid_of, kid_there, IsAbove, parent, further}

-- of two kids in a row the earlier one's subtree ends at or before the later one
row_apart : (count n start : ℕ) (kids : List ℕ) (ends : ℕ → ℕ) (i j x y : ℕ) → AreBehind count n kids → InRow start kids ends → Rises count n ends → i < j
    → slice_get kids i ≡ Some x → slice_get kids j ≡ Some y → ends x ≤ y
row_apart count n start [] ends i j x y b r up less e f = absurd (cc)
row_apart count n start (k ∷ ks) ends i zero x y b r up less e f = absurd (omega arith)
row_apart count n start (k ∷ ks) ends zero (suc j) x y b r up less e f =
    let same : k ≡ x = cc in
    rw (← same) (kid_in_row count n (ends k) ks ends j y (behind-tail count n k ks b) r.1 up f).0
row_apart count n start (k ∷ ks) ends (suc i) (suc j) x y b r up less e f =
    row_apart count n (ends k) ks ends i j x y (behind-tail count n k ks b) r.1 up (omega arith) e f

-- a node in a row lies in the subtree of one of the kids
row_holds : (start : ℕ) (kids : List ℕ) (ends : ℕ → ℕ) (m : ℕ) → InRow start kids ends → start ≤ m → m < row_end start kids ends
    → (action : ℕ) × (kid : ℕ) × (slice_get kids action ≡ Some kid) × (kid ≤ m) × (m < ends kid)
row_holds start [] ends m r low high = absurd (omega arith)
row_holds start (k ∷ ks) ends m r low high = elim (cases_lt m (ends k)) [
  | inl here ↦ (0, k, refl, omega (arith, r.0), here)
  | inr behind ↦
      let rest = row_holds (ends k) ks ends m r.1 behind high in
      (suc rest.0, rest.1, rest.2, rest.3, rest.4)
]

-- a node that has a kid is in the list
node_of : (node : Option Node) (action kid : ℕ) → kid_there action node ≡ Some kid → (there : Node) × (node ≡ Some there) × (slice_get (kids_of there) action ≡ Some kid)
node_of None action kid h = absurd (cc)
node_of (Some node) action kid h = (node, refl, h)

in_list : (nodes : List Node) (n : ℕ) (node : Node) → slice_get nodes n ≡ Some node → n < length nodes
in_list [] n node h = absurd (cc)
in_list (x ∷ xs) zero node h = omega arith
in_list (x ∷ xs) (suc n) node h = omega (arith, in_list xs n node h)

own_node : (side : Side) (node : Option Node) (set : ℕ) → set_there side node ≡ Some set → (there : Node) × (node ≡ Some there) × (set_at side there ≡ Some set)
own_node side None set h = absurd (cc)
own_node side (Some node) set h = (node, refl, h)

-- a node of a set is in the list
pub set_node : (g : GameView) (side : Side) (n set : ℕ) → set_of g side n ≡ Some set → (n < length g.nodes) × ((node : Node) × (slice_get g.nodes n ≡ Some node) × (set_at side node ≡ Some set))
set_node g side n set h = let at = own_node side (slice_get g.nodes n) set h in (in_list g.nodes n at.0 at.1, at)

module _ (g : GameView) (rules : IsGame g) where
  up : (n : ℕ) → Rises (length g.nodes) n (end_of g.nodes)
  up n = λ m low high. rises g rules m high

  -- a kid stands behind its node, and its subtree ends within the node's
  pub kid_below : (n action kid : ℕ) → kid_of g n action ≡ Some kid → (n < kid) × (kid < length g.nodes) × (n < length g.nodes) × (end_of g.nodes kid ≤ end_of g.nodes n)
  kid_below n action kid h =
      let at = node_of (slice_get g.nodes n) action kid h in
      let behind = kids_behind g n at.0 (rules.each_node n at.0 at.1) in
      let here = behind_at (length g.nodes) n (kids_of at.0) action kid behind at.2 in
      let row = kid_in_row (length g.nodes) n (n + 1) (kids_of at.0) (end_of g.nodes) action kid behind (rules.in_row n at.0 at.1) (up n) at.2 in
      (here.0, here.1, in_list g.nodes n at.0 at.1, omega (arith, row.1, end_of-node g rules n at.0 at.1))

  -- of two kids the earlier one's subtree ends at or before the later one
  kids_apart : (n i j x y : ℕ) → i < j → kid_of g n i ≡ Some x → kid_of g n j ≡ Some y → end_of g.nodes x ≤ y
  kids_apart n i j x y less e f =
      let at = node_of (slice_get g.nodes n) i x e in
      let there = node_of (slice_get g.nodes n) j y f in
      let same : there.0 ≡ at.0 = cc (at.1, there.1) in
      row_apart (length g.nodes) n (n + 1) (kids_of at.0) (end_of g.nodes) i j x y (kids_behind g n at.0 (rules.each_node n at.0 at.1)) (rules.in_row n at.0 at.1) (up n) less at.2 (rw same at there.2)

  -- a node in a subtree lies in that of a kid of its root
  kid_holds : (n m : ℕ) → n < length g.nodes → n < m → m < end_of g.nodes n → (action : ℕ) × (kid : ℕ) × (kid_of g n action ≡ Some kid) × (kid ≤ m) × (m < end_of g.nodes kid)
  kid_holds n m room low high =
      let at = found g.nodes n room in
      let held = row_holds (n + 1) (kids_of at.0) (end_of g.nodes) m (rules.in_row n at.0 at.1) (omega arith) (omega (arith, end_of-node g rules n at.0 at.1)) in
      (held.0, held.1, rw at.1 held.2, held.3, held.4)

  -- a subtree ends within each subtree that holds its root; `left` bounds how many nodes stand behind n
  inside_from : (left n m : ℕ) → length g.nodes ≤ n + left → n < length g.nodes → n ≤ m → m < end_of g.nodes n → end_of g.nodes m ≤ end_of g.nodes n
  inside_from zero n m bound room low high = absurd (omega arith)
  inside_from (suc left) n m bound room low high = elim (cases_lt n m) [
    | inl below ↦
        let held = kid_holds n m room below high in
        let kid = kid_below n held.0 held.1 held.2 in
        omega (arith, kid.3, inside_from left held.1 m (omega (arith, kid.0)) kid.1 held.3 held.4)
    | inr here ↦ let same : m ≡ n = omega arith in rw same (omega arith)
  ]

  pub inside : (n m : ℕ) → n < length g.nodes → n ≤ m → m < end_of g.nodes n → end_of g.nodes m ≤ end_of g.nodes n
  inside n m room low high = inside_from (length g.nodes) n m (omega arith) room low high

  -- a node that is a kid of another isn't one of a node in that other's subtree
  not_shared : (m n a b x : ℕ) → m < n → kid_of g m a ≡ Some x → kid_of g n b ≡ Some x → ⊥
  not_shared m n a b x less e f =
      let one = kid_below m a x e in
      let two = kid_below n b x f in
      let own = rises g rules x one.1 in
      let held = kid_holds m n one.2 less (omega arith) in
      let room = kid_below m held.0 held.1 held.2 in
      let around = inside held.1 n room.1 held.3 held.4 in
      elim (cases_lt held.0 a) [
        | inl before ↦ omega (arith, kids_apart m held.0 a held.1 x before held.2 e)
        | inr later ↦ elim (cases_lt a held.0) [
          | inl after ↦ omega (arith, kids_apart m a held.0 x held.1 after e held.2)
          | inr at ↦
              let action : held.0 ≡ a = omega arith in
              let same : held.1 ≡ x = cc (held.2, e) in
              omega arith
        ]
      ]

  -- a node is a kid of one node alone, by one action
  pub one_parent : (m n a b x : ℕ) → kid_of g m a ≡ Some x → kid_of g n b ≡ Some x → (m ≡ n) × (a ≡ b)
  one_parent m n a b x e f = elim (cases_lt m n) [
    | inl less ↦ absurd (not_shared m n a b x less e f)
    | inr more ↦ elim (cases_lt n m) [
      | inl less ↦ absurd (not_shared n m b a x less f e)
      | inr least ↦
          let same : m ≡ n = omega arith in
          let here : kid_of g m b ≡ Some x = rw same f in
          let own = rises g rules x (kid_below m a x e).1 in (
            same,
            elim (cases_lt a b) [
              | inl before ↦ absurd (omega (arith, kids_apart m a b x x before e here))
              | inr later ↦ elim (cases_lt b a) [
                | inl after ↦ absurd (omega (arith, kids_apart m b a x x after here e))
                | inr at ↦ omega arith
              ]
            ],
          )
    ]
  ]

  -- a node above another has it in its subtree
  pub above_within : (m n : ℕ) → IsAbove g m n → (m < n) × (n < end_of g.nodes m) × (m < length g.nodes) × (n < length g.nodes)
  above_within m _ (parent action n e) =
      let kid = kid_below m action n e in
      (kid.0, omega (arith, kid.3, rises g rules n kid.1), kid.2, kid.1)
  above_within m _ (further between action n h e) =
      let before = above_within m between h in
      let kid = kid_below between action n e in
      let around = inside m between before.2 (omega (arith, before.0)) before.1 in
      (omega (arith, before.0, kid.0), omega (arith, around, kid.3, rises g rules n kid.1), before.2, kid.1)

  -- a node that is above one that is above a third is above that
  pub above_joined : (l m n : ℕ) → IsAbove g l m → IsAbove g m n → IsAbove g l n
  above_joined l m _ h (parent action n e) = further m action n h e
  above_joined l m _ h (further between action n k e) = further between action n (above_joined l m between h k) e

  below_from : (left m n : ℕ) → length g.nodes ≤ m + left → m < length g.nodes → m < n → n < end_of g.nodes m → IsAbove g m n
  below_from zero m n bound room low high = absurd (omega arith)
  below_from (suc left) m n bound room low high =
      let held = kid_holds m n room low high in
      let kid = kid_below m held.0 held.1 held.2 in
      elim (cases_lt held.1 n) [
        | inl below ↦ above_joined m held.1 n (parent held.0 held.1 held.2) (below_from left held.1 n (omega (arith, kid.0)) kid.1 below held.4)
        | inr here ↦ let same : held.1 ≡ n = omega (arith, held.3) in parent held.0 n (rw same at held.2)
      ]

  -- a node is above those in its subtree
  pub within_above : (m n : ℕ) → m < length g.nodes → m < n → n < end_of g.nodes m → IsAbove g m n
  within_above m n room low high = below_from (length g.nodes) m n (omega arith) room low high

  -- two nodes above one are the same, or one is above the other
  pub comparable : (l m n : ℕ) → IsAbove g l n → IsAbove g m n → (l ≡ m) ⊎ (IsAbove g l m ⊎ IsAbove g m l)
  comparable l m n h k =
      let one = above_within l n h in
      let two = above_within m n k in
      elim (cases_lt l m) [
        | inl less ↦ inr (inl (within_above l m one.2 less (omega (arith, one.1, two.0))))
        | inr more ↦ elim (cases_lt m l) [
          | inl less ↦ inr (inr (within_above m l two.2 less (omega (arith, two.1, one.0))))
          | inr least ↦ inl (omega arith)
        ]
      ]

  parent_of : (m n : ℕ) → IsAbove g m n → (above : ℕ) × (action : ℕ) × (kid_of g above action ≡ Some n)
  parent_of m _ (parent action n e) = (m, action, e)
  parent_of m _ (further between action n h e) = (between, action, e)

  -- each node but the root is a kid
  pub has_parent : (n : ℕ) → 0 < n → n < length g.nodes → (above : ℕ) × (action : ℕ) × (kid_of g above action ≡ Some n)
  has_parent n low room = parent_of 0 n (within_above 0 n rules.has_root low (omega (arith, rules.one_tree)))
