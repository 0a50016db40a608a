-- The tree of the file: its nodes and their kids, and the game that is made of it.
use Rattle.std.proofs.Common.{◌≡◌, ℕ, zero, suc, ◌≤◌, ℤ, pos, List, [], ◌∷◌, Some, length, map, slice_get, ap, sym, subst, arith}
use Rattle.std.proofs.lemmas.List.{length-map}
use Rattle.std.proofs.lemmas.Option.{same_Some}
use Rattle.corr_game.specs.declared.nodes.Node.{Node}
use Rattle.corr_game.specs.declared.nodes.SetInfo.{SetInfo}
use Rattle.corr_game.specs.Game.{IsGame, IsScale, AreBehind}
use Rattle.corr_game.specs.Node.{kids_of}
use Rattle.corr_game.proofs.Rows.{kids_behind}
use Rattle.efg_reader.specs.RawGame.{RawGameView, IsRawGame, bare_game, bare_node, bare_nodes}
use Rattle.efg_reader.specs.declared.raw_game.RawNode.{RawNode}
use Rattle.game_scale.specs.Tree.{without_pay}
use Rattle.game_scale.proofs.SameTree.{IsFewPaid, game_of, bare_of, scaled_game}

pub bare_at : (nodes : List RawNode) (n : ℕ) (node : RawNode) → slice_get nodes n ≡ Some node → slice_get (bare_nodes nodes) n ≡ Some (bare_node node.shape)
bare_at [] n node h = absurd (cc)
bare_at (x ∷ xs) zero node h = ap (λ (r : RawNode). Some (bare_node r.shape)) (same_Some x node h)
bare_at (x ∷ xs) (suc n) node h = bare_at xs n node h

-- kids stand behind their node and in the list
pub kids_are_behind : (raw : RawGameView) → IsRawGame raw → (n : ℕ) (node : RawNode) → slice_get raw.nodes n ≡ Some node → AreBehind (length raw.nodes) n (kids_of (bare_node node.shape))
kids_are_behind raw rules n node h =
    let behind = kids_behind (bare_game raw) n (bare_node node.shape) (rules.tree.each_node n (bare_node node.shape) (bare_at raw.nodes n node h)) in
    subst (λ (count : ℕ). AreBehind count n (kids_of (bare_node node.shape))) (length-map raw.nodes (λ (r : RawNode). bare_node r.shape)) behind

pub few_nodes : (raw : RawGameView) → IsRawGame raw → length raw.nodes ≤ 4096
few_nodes raw rules = omega (arith, length-map raw.nodes (λ (r : RawNode). bare_node r.shape), rules.tree.at_most)

pub ready : (raw : RawGameView) (nodes : List Node) (one two : List SetInfo) (a b : ℤ) → IsRawGame raw → map without_pay nodes ≡ bare_nodes raw.nodes → one ≡ raw.one → two ≡ raw.two
    → ((n : ℕ) (x : Node) → slice_get nodes n ≡ Some x → IsFewPaid x) → IsScale a → IsScale b → IsGame (game_of nodes one two a b)
ready raw nodes one two a b rules same same_one same_two few scale_one scale_two =
    let first : IsGame (record { nodes = map without_pay nodes; one = raw.one; two = raw.two; scale_one = pos 1; scale_two = pos 1 }) = subst (λ (ns : List Node). IsGame (record { nodes = ns; one = raw.one; two = raw.two; scale_one = pos 1; scale_two = pos 1 })) (sym same) rules.tree in
    let second : IsGame (record { nodes = map without_pay nodes; one = one; two = raw.two; scale_one = pos 1; scale_two = pos 1 }) = subst (λ (s : List SetInfo). IsGame (record { nodes = map without_pay nodes; one = s; two = raw.two; scale_one = pos 1; scale_two = pos 1 })) (sym same_one) first in
    let third : IsGame (bare_of nodes one two) = subst (λ (s : List SetInfo). IsGame (record { nodes = map without_pay nodes; one = one; two = s; scale_one = pos 1; scale_two = pos 1 })) (sym same_two) second in
    scaled_game nodes one two a b third few scale_one scale_two

pub same_count : (nodes : List Node) (raws : List RawNode) → map without_pay nodes ≡ bare_nodes raws → length nodes ≡ length raws
same_count nodes raws h = omega (arith, ap (λ (ns : List Node). length ns) h, length-map nodes without_pay, length-map raws (λ (r : RawNode). bare_node r.shape))
