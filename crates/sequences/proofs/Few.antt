-- A player has fewer actions in all than there are nodes: each set's first node has as many kids as the set has
-- actions, and all nodes together have one kid fewer than there are nodes, since the subtrees of kids stand in a row.
use Rattle.std.proofs.Common.{◌≡◌, ℕ, ◌+◌, ◌<◌, ◌≤◌, List, [], ◌∷◌, Option, Some, None, zero, suc, length, get_or, slice_get, take, drop, sum_by, refl, subst, ap, inl, inr, arith, max}
use Rattle.std.proofs.lemmas.Bool.{cases_lt}
use Rattle.std.proofs.lemmas.List.{take_all, drop_all}
use Rattle.std.proofs.lemmas.List.Sums.{sum_by_more, sum_by-cons, sum_by-drop_more}
use Rattle.std.proofs.lemmas.Option.{get_or_from_slice_get, slice_get-get_or}
use Rattle.corr_game.specs.declared.nodes.Node.{Node}
use Rattle.corr_game.specs.declared.nodes.Node.TheVariants.{Leaf, Chance, Choice}
use Rattle.corr_game.specs.declared.nodes.SetInfo.{SetInfo}
use Rattle.corr_game.specs.declared.sides.Side.{Side}
use Rattle.corr_game.specs.declared.sides.Side.TheVariants.{One, Two}
use Rattle.corr_game.specs.Node.{kids_of, set_at}
use Rattle.corr_game.specs.Sets.{AreInOrder, IsMetOrNext, met_with}
use Rattle.corr_game.specs.Preorder.{InRow, row_end, end_of}
use Rattle.corr_game.specs.Game.{GameView, IsGame, IsNode, AreBehind, sets_of}
use Rattle.corr_game.proofs.Rows.{behind-head, behind-tail, kids_behind, end_of-node, found}

abbrev pub kid_count : Node → ℕ
kid_count node = length (kids_of node)

abbrev pub kids_before : List Node → ℕ → ℕ
kids_before nodes n = sum_by kid_count (take n nodes)

abbrev pub actions_of : SetInfo → ℕ
actions_of info = info.actions

row-count : (nodes : List Node) (count n start : ℕ) (kids : List ℕ) (ends : ℕ → ℕ) → AreBehind count n kids → InRow start kids ends
    → ((m : ℕ) → n < m → m < count → kids_before nodes (ends m) + m + 1 ≡ kids_before nodes m + ends m)
    → kids_before nodes (row_end start kids ends) + start + length kids ≡ kids_before nodes start + row_end start kids ends
row-count nodes count n start [] ends b r each = omega arith
row-count nodes count n start (kid ∷ kids) ends b r each =
    let here = behind-head count n kid kids b in
    let rest = row-count nodes count n (ends kid) kids ends (behind-tail count n kid kids b) r.1 each in
    omega (arith, r.0, ap (kids_before nodes) r.0, each kid here.0 here.1, rest)

subtree-count : (g : GameView) → IsGame g → (left n : ℕ) → length g.nodes ≤ n + left → n < length g.nodes
    → kids_before g.nodes (end_of g.nodes n) + n + 1 ≡ kids_before g.nodes n + end_of g.nodes n
subtree-count g rules zero n bound h = absurd (omega arith)
subtree-count g rules (suc left) n bound h =
    let at = found g.nodes n h in
    let node = at.0 in
    let e = end_of-node g rules n node at.1 in
    let more = sum_by_more kid_count g.nodes n node h in
    let same = ap kid_count (get_or_from_slice_get g.nodes n node node at.1) in
    let row = row-count g.nodes (length g.nodes) n (n + 1) (kids_of node) (end_of g.nodes) (kids_behind g n node (rules.each_node n node at.1)) (rules.in_row n node at.1)
    (λ m low high. subtree-count g rules left m (omega arith) high) in
    omega (arith, e, ap (kids_before g.nodes) e, more, same, row)

-- all nodes have one kid fewer than there are nodes
all-kids : (g : GameView) → IsGame g → sum_by kid_count g.nodes + 1 ≡ length g.nodes
all-kids g rules =
    let whole = subtree-count g rules (length g.nodes) 0 (omega arith) rules.has_root in
    let end = ap (kids_before g.nodes) rules.one_tree in
    let all = ap (sum_by kid_count) (take_all (length g.nodes) g.nodes (omega arith)) in
    omega (arith, whole, end, all, rules.one_tree)

-- a node of a set has as many kids as the set has actions
abbrev pub Fits : Side → List SetInfo → Node → Type 0
Fits side sets node = (set : ℕ) → set_at side node ≡ Some set → (set < length sets) × ((info : SetInfo) → slice_get sets set ≡ Some info → kid_count node ≡ info.actions)

fits_node : (g : GameView) (n : ℕ) (side : Side) (node : Node) → IsNode g n node → Fits side (sets_of side g) node
fits_node g n side (Leaf pay) h set e = absurd (cc)
fits_node g n side (Chance kids) h set e = absurd (cc)
fits_node g n One (Choice One named kids) h set e = let same : named.0 ≡ set = cc in rw (← same) (h.0, h.1)
fits_node g n One (Choice Two named kids) h set e = absurd (cc)
fits_node g n Two (Choice One named kids) h set e = absurd (cc)
fits_node g n Two (Choice Two named kids) h set e = let same : named.0 ≡ set = cc in rw (← same) (h.0, h.1)

unmet_at : (side : Side) (sets : List SetInfo) (met : ℕ) (node : Node) (rest : List Node) (set : Option ℕ) → set_at side node ≡ set → IsMetOrNext met set → AreInOrder side (met_with met set) rest (length sets)
    → Fits side sets node → ((met' : ℕ) → AreInOrder side met' rest (length sets) → sum_by actions_of (drop met' sets) ≤ sum_by kid_count rest) → sum_by actions_of (drop met sets) ≤ kid_count node + sum_by kid_count rest
unmet_at side sets met node rest None e next order fits each = omega (arith, each met order)
unmet_at side sets met node rest (Some set) e next order fits each =
    let Q : ℕ → Type 0 = λ m. AreInOrder side m rest (length sets) in
    let info : SetInfo = record { file = 0; actions = 0 } in
    elim (cases_lt set met) [
      | inl old ↦ let same : max met (set + 1) ≡ met = omega arith in omega (arith, each met (subst Q same order))
      | inr new ↦
          let same : set ≡ met = omega arith in
          let one_more : max met (set + 1) ≡ met + 1 = omega arith in
          let room = (fits set e).0 in
          let here = (fits set e).1 (get_or sets set info) (slice_get-get_or sets set info room) in
          let at = ap (λ k. actions_of (get_or sets k info)) same in
          omega (arith, sum_by-drop_more actions_of sets met info (omega arith), here, at, each (met + 1) (subst Q one_more order))
    ]

-- the sets that are still to be met have no more actions than the nodes left have kids
unmet : (side : Side) (sets : List SetInfo) (met : ℕ) (nodes : List Node) → AreInOrder side met nodes (length sets)
    → ((k : ℕ) (node : Node) → slice_get nodes k ≡ Some node → Fits side sets node) → sum_by actions_of (drop met sets) ≤ sum_by kid_count nodes
unfolding AreInOrder
unmet side sets met [] h fits =
    omega (arith, ap (sum_by actions_of) (drop_all met sets (omega (arith, h))))
unmet side sets met (node ∷ rest) h fits =
    let inner = unmet_at side sets met node rest (set_at side node) refl h.0 h.1 (fits 0 node refl) (λ m order. unmet side sets m rest order (λ k x e. fits (suc k) x e)) in
    omega (arith, sum_by-cons kid_count node rest, inner)

-- a player has fewer than 4096 actions in all
pub few_actions : (side : Side) (g : GameView) → IsGame g → sum_by actions_of (sets_of side g) < 4096
few_actions side g rules =
    let unmet_all = unmet side (sets_of side g) 0 g.nodes (rules.in_order side) (λ k node e. fits_node g k side node (rules.each_node k node e)) in
    omega (arith, unmet_all, all-kids g rules, rules.at_most)
