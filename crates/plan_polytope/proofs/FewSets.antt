-- Both players together have fewer sets than there are nodes: each set has a first node of its own, and the last node
-- of the tree has no kid, so it is a leaf or a chance node.
use Rattle.std.proofs.Common.{◌≡◌, ℕ, ◌+◌, ◌^◌, ◌<◌, ◌≤◌, suc, List, [], ◌∷◌, Some, length, slice_get, refl, ap, arith}
use Rattle.std.proofs.Math.Nat.{mul-le-mul_left}
use Rattle.std.proofs.lemmas.Option.{get_or_from_slice_get}
use Rattle.corr_game.specs.declared.nodes.Node.{Node}
use Rattle.corr_game.specs.declared.nodes.Node.TheVariants.{Leaf, Chance, Choice}
use Rattle.corr_game.specs.declared.nodes.SetId.{SetId}
use Rattle.corr_game.specs.declared.nodes.SetInfo.{SetInfo}
use Rattle.corr_game.specs.declared.sides.Side.{Side}
use Rattle.corr_game.specs.declared.sides.Side.TheVariants.{One, Two}
use Rattle.corr_game.specs.Node.{set_at}
use Rattle.corr_game.specs.Sets.{AreInOrder, IsMetOrNext, met_with}
use Rattle.corr_game.specs.Game.{GameView, IsGame, sets_of}
use Rattle.sequences.specs.Number.{count_of}
use Rattle.sequences.proofs.Adding.{within}
use Rattle.connected_pairs.specs.Connected.{PairsView, IsPairs}

one_node : (node : Node) (m n : ℕ) → IsMetOrNext m (set_at One node) → IsMetOrNext n (set_at Two node)
    → met_with m (set_at One node) + met_with n (set_at Two node) ≤ m + n + 1
one_node (Leaf pay) m n h i = omega arith
one_node (Chance kids) m n h i = omega arith
one_node (Choice One set kids) m n h i = omega (arith, h)
one_node (Choice Two set kids) m n h i = omega (arith, i)

few_from : (m n one two : ℕ) (nodes : List Node) → 0 < length nodes → AreInOrder One m nodes one → AreInOrder Two n nodes two
    → ((k : ℕ) (side : Side) (set : SetId) (kids : List ℕ) → slice_get nodes k ≡ Some (Choice side set kids) → k + 1 < length nodes)
    → one + two + 1 ≤ m + n + length nodes
unfolding AreInOrder
few_from m n one two [] low h i inner = absurd (omega arith)
few_from m n one two (Leaf pay ∷ []) low h i inner = omega (arith, h.1, i.1)
few_from m n one two (Chance kids ∷ []) low h i inner = omega (arith, h.1, i.1)
few_from m n one two (Choice side set kids ∷ []) low h i inner = absurd (omega (arith, inner 0 side set kids refl))
few_from m n one two (node ∷ (next ∷ rest)) low h i inner =
    let behind = few_from (met_with m (set_at One node)) (met_with n (set_at Two node)) one two (next ∷ rest) (omega arith) h.1 i.1
    (λ k side set kids e. omega (arith, inner (suc k) side set kids e)) in
    omega (arith, behind, one_node node m n h.0 i.0)

-- a choice node has a kid behind it
inner_node : (g : GameView) → IsGame g → (k : ℕ) (side : Side) (set : SetId) (kids : List ℕ) → slice_get g.nodes k ≡ Some (Choice side set kids) → k + 1 < length g.nodes
inner_node g rules k side set kids e =
    let node = rules.each_node k (Choice side set kids) e in
    let info = within (sets_of side g) set.0 node.0 in
    let some = (rules.each_set side set.0 info.0 node.0).0 in
    let same = ap (λ (i : SetInfo). i.actions) (get_or_from_slice_get (sets_of side g) set.0 info.0 info.0 info.1) in
    let count = node.1 info.0 info.1 in
    let first = node.2 0 0 (omega (arith, some, same, count)) in
    omega (arith, first.0, first.1)

pub few_sets : (g : GameView) → IsGame g → length g.one + length g.two ≤ 4095
few_sets g rules =
    omega (arith, rules.at_most, few_from 0 0 (length g.one) (length g.two) g.nodes rules.has_root (rules.in_order One) (rules.in_order Two) (inner_node g rules))

-- at most 4096 sequences of each player make at most 2^24 pairs
pub few_columns : (p : PairsView) → IsPairs p → length p.pairs ≤ 2 ^ 24
few_columns p rules =
    let one : count_of p.seqs.one ≤ 4096 = omega (arith, (rules.sides One).few) in
    let two : count_of p.seqs.two ≤ 4096 = omega (arith, (rules.sides Two).few) in
    omega (arith, rules.listed.at_most, mul-le-mul_left (count_of p.seqs.one) two)
