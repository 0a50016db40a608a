-- Nodes that differ in what they pay alone are one tree: where subtrees end, the depth of a node and the order of the sets
-- look at kids and sets alone. By induction on the list of nodes.
use Rattle.std.proofs.Common.{◌≡◌, ℕ, zero, suc, ◌+◌, ◌≤◌, ◌^◌, ℤ, pos, List, [], ◌∷◌, Some, true, false, eqb, length, map, slice_get, refl, ap, subst, ◌∙◌, arith}
use Rattle.std.specs.Prelude.{unsigned_abs, All, nat_eq}
use Rattle.std.specs.List.{IsDistinct}
use Rattle.std.proofs.lemmas.List.{length-map}
use Rattle.std.proofs.lemmas.Option.{same_Some}
use Rattle.corr_game.specs.declared.nodes.Node.{Node}
use Rattle.corr_game.specs.declared.nodes.Node.TheVariants as node
use Rattle.corr_game.specs.declared.nodes.SetInfo.{SetInfo}
use Rattle.corr_game.specs.declared.sides.Side.{Side}
use Rattle.corr_game.specs.declared.sides.Side.TheVariants.{One, Two}
use Rattle.corr_game.specs.Game.{GameView, IsGame, IsNode, IsSet, IsScale, sets_of, scale_of}
use Rattle.corr_game.specs.Node.{kids_of, set_at}
use Rattle.corr_game.specs.Preorder.{from_last, row_end, end_of, depth_of}
use Rattle.corr_game.specs.Sets.{AreInOrder, met_with}
use Rattle.game_scale.specs.Tree.{without_pay}

pub same_kids : (n : Node) → kids_of (without_pay n) ≡ kids_of n
same_kids (node.Leaf pay) = refl
same_kids (node.Chance kids) = refl
same_kids (node.Choice side set kids) = refl

same_set : (side : Side) (n : Node) → set_at side (without_pay n) ≡ set_at side n
same_set side (node.Leaf pay) = refl
same_set side (node.Chance kids) = refl
same_set side (node.Choice mover set kids) = refl

same_from : (at : ℕ) (nodes : List Node) (n : ℕ) → from_last (λ m here ends. row_end (m + 1) (kids_of here) ends) 0 at (map without_pay nodes) n ≡ from_last (λ m here ends. row_end (m + 1) (kids_of here) ends) 0 at nodes n
unfolding from_last
same_from at [] n = refl
same_from at (x ∷ xs) n =
    let rest : (k : ℕ) → from_last (λ m here ends. row_end (m + 1) (kids_of here) ends) 0 (at + 1) (map without_pay xs) k ≡ from_last (λ m here ends. row_end (m + 1) (kids_of here) ends) 0 (at + 1) xs k = same_from (at + 1) xs in
    let f = from_last (λ m here ends. row_end (m + 1) (kids_of here) ends) 0 (at + 1) (map without_pay xs) in
    let g = from_last (λ m here ends. row_end (m + 1) (kids_of here) ends) 0 (at + 1) xs in
    let whole : f ≡ g = λ i k. rest k i in
    let own : row_end (at + 1) (kids_of (without_pay x)) f ≡ row_end (at + 1) (kids_of x) g = ap (λ (ks : List ℕ). row_end (at + 1) ks f) (same_kids x) ∙ ap (λ (h : ℕ → ℕ). row_end (at + 1) (kids_of x) h) whole in
    elim (eqb n at) as (λ b. (elim b [ true ↦ row_end (at + 1) (kids_of (without_pay x)) f | false ↦ f n ]) ≡ (elim b [ true ↦ row_end (at + 1) (kids_of x) g | false ↦ g n ])) [
      | true ↦ own
      | false ↦ rest n
    ]

pub same_ends : (nodes : List Node) → end_of (map without_pay nodes) ≡ end_of nodes
unfolding end_of
same_ends nodes = λ i n. same_from 0 nodes n i

pub same_depth : (nodes : List Node) (n : ℕ) → depth_of (map without_pay nodes) n ≡ depth_of nodes n
unfolding depth_of
same_depth nodes n = rw (same_ends nodes) refl

pub same_order : (side : Side) (met : ℕ) (nodes : List Node) (count : ℕ) → AreInOrder side met (map without_pay nodes) count → AreInOrder side met nodes count
unfolding AreInOrder
same_order side met [] count h = h
same_order side met (x ∷ xs) count h =
    let first = rw (same_set side x) at h.0 in
    let rest = rw (same_set side x) at h.1 in
    (first, same_order side (met_with met (set_at side x)) xs count rest)

at_map : (nodes : List Node) (n : ℕ) (x : Node) → slice_get nodes n ≡ Some x → slice_get (map without_pay nodes) n ≡ Some (without_pay x)
at_map [] n x h = absurd (cc)
at_map (y ∷ ys) zero x h = ap (λ (z : Node). Some (without_pay z)) (same_Some y x h)
at_map (y ∷ ys) (suc n) x h = at_map ys n x h

-- the amounts of a leaf are within the limit
abbrev pub IsFewPaid : Node → Type 0
IsFewPaid (node.Leaf pay) = (unsigned_abs pay.one ≤ 2 ^ 28) × (unsigned_abs pay.two ≤ 2 ^ 28)
IsFewPaid (node.Chance kids) = Unit {0}
IsFewPaid (node.Choice side set kids) = Unit {0}

abbrev pub bare_of : List Node → List SetInfo → List SetInfo → GameView
bare_of nodes one two = record { nodes = map without_pay nodes; one = one; two = two; scale_one = pos 1; scale_two = pos 1 }

abbrev pub game_of : List Node → List SetInfo → List SetInfo → ℤ → ℤ → GameView
game_of nodes one two scale_one scale_two = record { nodes = nodes; one = one; two = two; scale_one = scale_one; scale_two = scale_two }

same_rules : (nodes : List Node) (one two : List SetInfo) (a b : ℤ) (n : ℕ) (x : Node) → IsFewPaid x → IsNode (bare_of nodes one two) n (without_pay x) → IsNode (game_of nodes one two a b) n x
same_rules nodes one two a b n (node.Leaf pay) few h = few
same_rules nodes one two a b n (node.Chance kids) few h = rw (length-map nodes without_pay) at h
same_rules nodes one two a b n (node.Choice One set kids) few h = rw (length-map nodes without_pay) at h
same_rules nodes one two a b n (node.Choice Two set kids) few h = rw (length-map nodes without_pay) at h

same_sets : (nodes : List Node) (one two : List SetInfo) (a b : ℤ) (side : Side) → sets_of side (bare_of nodes one two) ≡ sets_of side (game_of nodes one two a b)
same_sets nodes one two a b One = refl
same_sets nodes one two a b Two = refl

each_scale : (nodes : List Node) (one two : List SetInfo) (a b : ℤ) → IsScale a → IsScale b → (side : Side) → IsScale (scale_of side (game_of nodes one two a b))
each_scale nodes one two a b p q One = p
each_scale nodes one two a b p q Two = q

pub scaled_game : (nodes : List Node) (one two : List SetInfo) (a b : ℤ) → IsGame (bare_of nodes one two) → ((n : ℕ) (x : Node) → slice_get nodes n ≡ Some x → IsFewPaid x) → IsScale a → IsScale b → IsGame (game_of nodes one two a b)
scaled_game nodes one two a b g few scale_one scale_two =
    let count = length-map nodes without_pay in
    let ends = same_ends nodes in
    record {
      has_root = omega (arith, count, g.has_root);
      at_most = omega (arith, count, g.at_most);
      each_node = λ n x h. same_rules nodes one two a b n x (few n x h) (g.each_node n (without_pay x) (at_map nodes n x h));
      in_row = λ n x h. rw (ends, same_kids x) at (g.in_row n (without_pay x) (at_map nodes n x h));
      one_tree = rw (ends, count) at g.one_tree;
      not_deep = λ n h. subst (λ (d : ℕ). d ≤ 256) (same_depth nodes n) (g.not_deep n (omega (arith, count)));
      each_set = λ side. subst (λ (sets : List SetInfo). All IsSet sets) (same_sets nodes one two a b side) (g.each_set side);
      in_order = λ side. same_order side 0 nodes _ (subst (λ (sets : List SetInfo). AreInOrder side 0 (map without_pay nodes) (length sets)) (same_sets nodes one two a b side) (g.in_order side));
      own_files = λ side. subst (λ (sets : List SetInfo). IsDistinct nat_eq (map (λ (info : SetInfo). info.file) sets)) (same_sets nodes one two a b side) (g.own_files side);
      each_scale = each_scale nodes one two a b scale_one scale_two;
    }
