-- Kids in a row: each subtree ends behind its root and within the tree, and sums over a row telescope. The facts of
-- a row follow by induction on its kids, those of the tree by going from the last node to the first.
use Rattle.std.proofs.Common.{◌≡◌, ℕ, ◌+◌, ◌<◌, ◌≤◌, suc, zero, List, [], ◌∷◌, Some, length, slice_get, refl, inl, inr, arith}
use Rattle.std.proofs.lemmas.Bool.{cases_lt}
use Rattle.std.proofs.lemmas.List.Elements.{All-nil, All-head, All-tail}
use Rattle.corr_game.specs.declared.nodes.Node.{Node}
use Rattle.corr_game.specs.declared.nodes.Node.TheVariants.{Leaf, Chance, Choice}
use Rattle.corr_game.specs.Node.{kids_of}
use Rattle.corr_game.specs.Preorder.{row_end, InRow, end_of}
use Rattle.corr_game.specs.Game.{GameView, IsGame, IsNode, AreBehind}
use Rattle.corr_game.proofs.FromLast.{from_last-step}

pub behind-head : (count n kid : ℕ) (kids : List ℕ) → AreBehind count n (kid ∷ kids) → (n < kid) × (kid < count)
behind-head count n kid kids h = All-head (λ m. (n < m) × (m < count)) kid kids h

pub behind-tail : (count n kid : ℕ) (kids : List ℕ) → AreBehind count n (kid ∷ kids) → AreBehind count n kids
behind-tail count n kid kids h = All-tail (λ m. (n < m) × (m < count)) kid kids h

-- each kid stands behind the node and in the list
pub behind_at : (count n : ℕ) (kids : List ℕ) (action kid : ℕ) → AreBehind count n kids → slice_get kids action ≡ Some kid → (n < kid) × (kid < count)
behind_at count n [] action kid b e = absurd (cc)
behind_at count n (x ∷ xs) zero kid b e = let same : x ≡ kid = cc in rw (← same) (behind-head count n x xs b)
behind_at count n (x ∷ xs) (suc action) kid b e = behind_at count n xs action kid (behind-tail count n x xs b) e

-- the kids of a node of a game stand behind it
pub kids_behind : (g : GameView) (n : ℕ) (node : Node) → IsNode g n node → AreBehind (length g.nodes) n (kids_of node)
kids_behind g n (Leaf pay) h = All-nil (λ m. (n < m) × (m < length g.nodes))
kids_behind g n (Chance kids) h = h.2
kids_behind g n (Choice side set kids) h = h.2

-- ends that agree behind n give a row of kids behind n one end
row_end-same : (count n start : ℕ) (kids : List ℕ) (f g : ℕ → ℕ) → AreBehind count n kids → ((m : ℕ) → n < m → f m ≡ g m) → row_end start kids f ≡ row_end start kids g
row_end-same count n start [] f g b h = refl
row_end-same count n start (kid ∷ kids) f g b h =
    rw (h kid (behind-head count n kid kids b).0) (row_end-same count n (g kid) kids f g (behind-tail count n kid kids b) h)

-- a node's subtree ends where the row of its kids ends
pub end_of-node : (g : GameView) (rules : IsGame g) (n : ℕ) (node : Node) → slice_get g.nodes n ≡ Some node → end_of g.nodes n ≡ row_end (n + 1) (kids_of node) (end_of g.nodes)
unfolding end_of
end_of-node g rules n node h =
    from_last-step (λ m x ends. row_end (m + 1) (kids_of x) ends) 0 g.nodes n node h
    (λ a b agree. row_end-same (length g.nodes) n (n + 1) (kids_of node) a b (kids_behind g n node (rules.each_node n node h)) agree)

-- each node behind n and before `count` ends behind itself
abbrev pub Rises : ℕ → ℕ → (ℕ → ℕ) → Type 0
Rises count n ends = (m : ℕ) → n < m → m < count → m < ends m

pub row_end-at_least : (count n start : ℕ) (kids : List ℕ) (ends : ℕ → ℕ) → AreBehind count n kids → InRow start kids ends → Rises count n ends → start ≤ row_end start kids ends
row_end-at_least count n start [] ends b r up = omega arith
row_end-at_least count n start (kid ∷ kids) ends b r up =
    let here = behind-head count n kid kids b in
    omega (arith, r.0, up kid here.0 here.1, row_end-at_least count n (ends kid) kids ends (behind-tail count n kid kids b) r.1 up)

-- each kid of a row stands in it
pub kid_in_row : (count n start : ℕ) (kids : List ℕ) (ends : ℕ → ℕ) (action kid : ℕ) → AreBehind count n kids → InRow start kids ends → Rises count n ends → slice_get kids action ≡ Some kid → (start ≤ kid) × (ends kid ≤ row_end start kids ends)
kid_in_row count n start [] ends action kid b r up e = absurd (cc)
kid_in_row count n start (x ∷ xs) ends zero kid b r up e =
    let same : x ≡ kid = cc in
    rw (← same) (omega (arith, r.0), row_end-at_least count n (ends x) xs ends (behind-tail count n x xs b) r.1 up)
kid_in_row count n start (x ∷ xs) ends (suc action) kid b r up e =
    let here = behind-head count n x xs b in
    let rest = kid_in_row count n (ends x) xs ends action kid (behind-tail count n x xs b) r.1 up e in
    (omega (arith, r.0, up x here.0 here.1, rest.0), rest.1)

-- what lies in a row ends in it, where this holds of each kid's own subtree
covered : (count n start : ℕ) (kids : List ℕ) (ends : ℕ → ℕ) → AreBehind count n kids → InRow start kids ends → Rises count n ends
    → ((kid m : ℕ) → n < kid → kid < count → kid ≤ m → m < ends kid → ends m ≤ ends kid)
    → (m : ℕ) → start ≤ m → m < row_end start kids ends → ends m ≤ row_end start kids ends
covered count n start [] ends b r up inner m low high = absurd (omega arith)
covered count n start (kid ∷ kids) ends b r up inner m low high =
    let here = behind-head count n kid kids b in
    let tail = behind-tail count n kid kids b in
    elim (cases_lt m (ends kid)) [
      | inl below ↦ omega (arith, inner kid m here.0 here.1 (omega (arith, r.0)) below, row_end-at_least count n (ends kid) kids ends tail r.1 up)
      | inr above ↦ covered count n (ends kid) kids ends tail r.1 up inner m above high
    ]

-- where a number is in a list, an element is there
pub found : (nodes : List Node) (n : ℕ) → n < length nodes → (node : Node) × (slice_get nodes n ≡ Some node)
found [] n h = absurd (omega arith)
found (x ∷ xs) zero h = (x, refl)
found (x ∷ xs) (suc n) h = found xs n (omega arith)

-- from the last node to the first: `left` bounds how many nodes stand behind n
rises_from : (g : GameView) → IsGame g → (left n : ℕ) → length g.nodes ≤ n + left → n < length g.nodes → n < end_of g.nodes n
rises_from g rules zero n bound h = absurd (omega arith)
rises_from g rules (suc left) n bound h =
    let at = found g.nodes n h in
    let node = at.0 in
    let behind = kids_behind g n node (rules.each_node n node at.1) in
    let up : Rises (length g.nodes) n (end_of g.nodes) = λ m low high. rises_from g rules left m (omega arith) high in
    let least = row_end-at_least (length g.nodes) n (n + 1) (kids_of node) (end_of g.nodes) behind (rules.in_row n node at.1) up in
    omega (arith, end_of-node g rules n node at.1, least)

pub rises : (g : GameView) → IsGame g → (n : ℕ) → n < length g.nodes → n < end_of g.nodes n
rises g rules n h = rises_from g rules (length g.nodes) n (omega arith) h

-- a node's subtree holds the subtrees of the nodes in it
inside_from : (g : GameView) → IsGame g → (left n : ℕ) → length g.nodes ≤ n + left → n < length g.nodes → (m : ℕ) → n ≤ m → m < end_of g.nodes n → end_of g.nodes m ≤ end_of g.nodes n
inside_from g rules zero n bound h m low high = absurd (omega arith)
inside_from g rules (suc left) n bound h m low high =
    let at = found g.nodes n h in
    let node = at.0 in
    let ends = end_of g.nodes in
    let behind = kids_behind g n node (rules.each_node n node at.1) in
    let e = end_of-node g rules n node at.1 in
    elim (cases_lt n m) [
      | inl below ↦
          let within = covered (length g.nodes) n (n + 1) (kids_of node) ends behind (rules.in_row n node at.1) (λ k l r. rises g rules k r)
          (λ kid k l r. inside_from g rules left kid (omega arith) r k) m (omega arith) (omega (arith, e)) in
          omega (arith, e, within)
      | inr above ↦ let same : m ≡ n = omega arith in rw same (omega arith)
    ]

-- every node's subtree ends in the list
pub end_of-at_most : (g : GameView) → IsGame g → (n : ℕ) → n < length g.nodes → end_of g.nodes n ≤ length g.nodes
end_of-at_most g rules n h =
    let inside = inside_from g rules (length g.nodes) 0 (omega arith) rules.has_root n (omega arith) (omega (arith, rules.one_tree)) in
    omega (arith, rules.one_tree, inside)
