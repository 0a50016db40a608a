-- With perfect recall public chance leaves no triangle. Two nodes of a set part at a node of the other player, since chance is
-- public and the player remembers the own moves. So where a set's node is above a node of the other player's set, no other set
-- with the same own sequence has a node on a path with a node of that one.
use Rattle.std.proofs.Common.{◌≡◌, ◌⊎◌, ℕ, ◌+◌, ◌<◌, ◌≤◌, List, [], ◌∷◌, ◌++◌, Option, Some, None, zero, suc, length, slice_get, inl, inr, refl, sym, ap, subst, ◌∙◌, append_assoc, arith}
use Rattle.std.proofs.lemmas.List.{length-append}
use Rattle.corr_game.specs.declared.nodes.Node.{Node}
use Rattle.corr_game.specs.declared.nodes.Node.TheVariants.{Leaf, Chance, Choice}
use Rattle.corr_game.specs.declared.nodes.SetId.{SetId}
use Rattle.corr_game.specs.declared.sides.Side.{Side}
use Rattle.corr_game.specs.declared.sides.Side.TheVariants.{One, Two}
use Rattle.corr_game.specs.Game.{GameView, IsGame}
use Rattle.corr_game.proofs.Rows.{found}
use Rattle.tree_recall.specs.OwnSequence.{HasRecall, IsOwnAt, other_move, own_move}
use Rattle.tree_recall.specs.Tree.{IsAbove, further, kid_of, parent, set_of}
use Rattle.tree_recall.proofs.Kids.{above_joined, above_within, comparable, kid_below, set_node}
use Rattle.tree_recall.proofs.OwnSequences.{has_own, own_same}
use Rattle.tree_recall.proofs.Progress.{same_side-refl}
use Rattle.connected_pairs.specs.Connected.{IsPairs, IsPairsOf, PairsView}
use Rattle.connected_pairs.specs.Table.{other}
use Rattle.triangle_test.specs.declared.triangles.Quad.{Quad}
use Rattle.triangle_test.specs.PublicChance.{IsAtOrBelow, IsChance, IsPublicChance}
use Rattle.triangle_test.specs.TreeTriangle.{IsTreeTriangle}
use Rattle.triangle_test.specs.Triangle.{HasNoTriangle}
use Rattle.triangle_test.proofs.ByTree.{by_tree}
use Rattle.triangle_test.proofs.OneKid.{below_kid, one_kid, same_or_apart, some_kid}
use Rattle.triangle_test.proofs.Partings.{at_same_kid, kid_from, root_over, under_kid}

abbrev Moves : Type 0
Moves = List (SetId × ℕ)

abbrev move_of : ℕ → ℕ → SetId × ℕ
move_of set action = (record { 0 = set }, action)

own_step : (g : GameView) (side : Side) (m action n : ℕ) (a : Moves) → IsOwnAt g side m a → kid_of g m action ≡ Some n → (here : Option ℕ)
    → set_of g side m ≡ here → (more : Moves) × IsOwnAt g side n (more ++ a)
own_step g side m action n a h e None f = ([], other_move m action n a h f e)
own_step g side m action n a h e (Some set) f =
    let at : SetId = record { 0 = set } in
    ((at, action) ∷ [], own_move m action n at a h f e)

-- below a node the own moves are more
own_down : (g : GameView) (side : Side) (m n : ℕ) (a : Moves) → IsAbove g m n → IsOwnAt g side m a
    → (more : Moves) × IsOwnAt g side n (more ++ a)
own_down g side m _ a (parent action n e) h = own_step g side m action n a h e (set_of g side m) refl
own_down g side m _ a (further between action n up e) h =
    let before = own_down g side m between a up h in
    let step = own_step g side between action n (before.0 ++ a) before.1 e (set_of g side between) refl in
    (step.0 ++ before.0, subst (IsOwnAt g side n) (sym (append_assoc step.0 before.0 a)) step.1)

own_at_kid : (g : GameView) (side : Side) (kid n : ℕ) (a : Moves) → IsAtOrBelow g kid n → IsOwnAt g side kid a
    → (more : Moves) × IsOwnAt g side n (more ++ a)
own_at_kid g side kid n a (inl same) h = ([], subst (λ (x : ℕ). IsOwnAt g side x a) same h)
own_at_kid g side kid n a (inr below) h = own_down g side kid n a below h

-- and at or below a kid of an own node that node's move is among them
own_through : (g : GameView) (side : Side) (m i kid n set : ℕ) (a : Moves) → set_of g side m ≡ Some set → kid_of g m i ≡ Some kid
    → IsAtOrBelow g kid n → IsOwnAt g side m a
    → (more : Moves) × IsOwnAt g side n (more ++ move_of set i ∷ a)
own_through g side m i kid n set a f e under h =
    let at : SetId = record { 0 = set } in
    own_at_kid g side kid n (move_of set i ∷ a) under (own_move m i kid at a h f e)

same_move : (xs ys rest : Moves) (x y : SetId × ℕ) → xs ++ x ∷ rest ≡ ys ++ y ∷ rest → x ≡ y
same_move [] [] rest x y e = cc
same_move [] (z ∷ zs) rest x y e = absurd (omega (arith, ap (λ (l : Moves). length l) e, length-append zs (y ∷ rest)))
same_move (z ∷ zs) [] rest x y e = absurd (omega (arith, ap (λ (l : Moves). length l) e, length-append zs (x ∷ rest)))
same_move (z ∷ zs) (w ∷ ws) rest x y e =
    let tail : zs ++ x ∷ rest ≡ ws ++ y ∷ rest = cc in
    same_move zs ws rest x y tail

-- one of two nodes is the other, or above it
abbrev pub AreRelated : GameView → ℕ → ℕ → Type 0
AreRelated g m n = (m ≡ n) ⊎ (IsAbove g m n ⊎ IsAbove g n m)

-- two nodes are at or below two different kids of some node
abbrev pub PartSomewhere : GameView → ℕ → ℕ → Type 0
PartSomewhere g m n =
    (w : ℕ) × (i : ℕ) × (j : ℕ) × (a : ℕ) × (b : ℕ) × (kid_of g w i ≡ Some a) × (kid_of g w j ≡ Some b) × (a ≡ b → ⊥)
    × IsAtOrBelow g a m × IsAtOrBelow g b n

related_under : (g : GameView) (kid m n : ℕ) → IsAtOrBelow g kid m → IsAtOrBelow g kid n
    → (IsAbove g kid m → IsAbove g kid n → AreRelated g m n ⊎ PartSomewhere g m n) → AreRelated g m n ⊎ PartSomewhere g m n
related_under g kid m n (inl here) (inl there) deeper = inl (inl (sym here ∙ there))
related_under g kid m n (inl here) (inr below) deeper = inl (inr (inl (subst (λ (x : ℕ). IsAbove g x n) here below)))
related_under g kid m n (inr below) (inl there) deeper = inl (inr (inr (subst (λ (x : ℕ). IsAbove g x m) there below)))
related_under g kid m n (inr below) (inr under) deeper = deeper below under

part_below : (g : GameView) → IsGame g → (left w m n : ℕ) → length g.nodes ≤ w + left → IsAbove g w m → IsAbove g w n
    → AreRelated g m n ⊎ PartSomewhere g m n
part_below g rules zero w m n bound over above = absurd (omega (arith, bound, (above_within g rules w m over).2))
part_below g rules (suc left) w m n bound over above =
    let one = some_kid g w m over in
    let two = some_kid g w n above in
    elim (same_or_apart one.1 two.1) [
      | inl same ↦ related_under g one.1 m n one.3 (at_same_kid g one.1 two.1 n same two.3)
          (λ below under. part_below g rules left one.1 m n (omega (arith, bound, (kid_below g rules w one.0 one.1 one.2).0)) below under)
      | inr apart ↦ inr (w, one.0, two.0, one.1, two.1, one.2, two.2, apart, one.3, two.3)
    ]

part_or_related : (g : GameView) → IsGame g → (m n : ℕ) → m < length g.nodes → n < length g.nodes → AreRelated g m n ⊎ PartSomewhere g m n
part_or_related g rules m n low room =
    related_under g 0 m n (root_over g rules m low) (root_over g rules n room)
    (λ below under. part_below g rules (length g.nodes) 0 m n (omega arith) below under)

mover_here : (side : Side) (set : SetId) (kids : List ℕ) (g : GameView) (w : ℕ) → slice_get g.nodes w ≡ Some (Choice side set kids)
    → set_of g side w ≡ Some set.0
mover_here side set kids g w at = rw (at, same_side-refl side) refl

mover_at : (g : GameView) (rules : IsGame g) (w i kid : ℕ) (node : Node) → slice_get g.nodes w ≡ Some node → kid_of g w i ≡ Some kid
    → IsChance g w ⊎ ((mover : Side) × (set : ℕ) × (set_of g mover w ≡ Some set))
mover_at g rules w i kid (Leaf pay) at e =
    let there = kid_from g rules w (Leaf pay) at i kid e in
    absurd (cc)
mover_at g rules w i kid (Chance kids) at e = inl (kids, at)
mover_at g rules w i kid (Choice mover set kids) at e = inr (mover, set.0, mover_here mover set kids g w at)

-- at a node with kids nature moves, or a player
mover_of : (g : GameView) → IsGame g → (w i kid : ℕ) → kid_of g w i ≡ Some kid
    → IsChance g w ⊎ ((mover : Side) × (set : ℕ) × (set_of g mover w ≡ Some set))
mover_of g rules w i kid e =
    let at = found g.nodes w (kid_below g rules w i kid e).2 in
    mover_at g rules w i kid at.0 at.1 e

either_side : (s mover : Side) → (mover ≡ s) ⊎ (mover ≡ other s)
either_side One One = inl refl
either_side One Two = inr refl
either_side Two One = inr refl
either_side Two Two = inl refl

module _ (g : GameView) (rules : IsGame g) where
  -- an own node has fewer own moves than a node below it
  longer : (side : Side) (m n set : ℕ) (a b : Moves) → set_of g side m ≡ Some set → IsAbove g m n → IsOwnAt g side m a
      → IsOwnAt g side n b → length a < length b
  longer side m n set a b f above h k =
      let kid = some_kid g m n above in
      let through = own_through g side m kid.0 kid.1 n set a f kid.2 kid.3 h in
      let same = own_same g rules side n b (through.0 ++ move_of set kid.0 ∷ a) k through.1 in
      omega (arith, ap (λ (l : Moves). length l) same, length-append through.0 (move_of set kid.0 ∷ a))

  no_shorter : (side : Side) (m n : ℕ) (a b : Moves) → IsAbove g m n → IsOwnAt g side m a → IsOwnAt g side n b → length a ≤ length b
  no_shorter side m n a b above h k =
      let down = own_down g side m n a above h in
      let same = own_same g rules side n b (down.0 ++ a) k down.1 in
      omega (arith, ap (λ (l : Moves). length l) same, length-append down.0 a)

  -- nodes below different kids of an own node have different own sequences
  differ : (side : Side) (w i j a b set m n : ℕ) (seq : Moves) → set_of g side w ≡ Some set → kid_of g w i ≡ Some a
      → kid_of g w j ≡ Some b
      → (a ≡ b → ⊥) → IsAtOrBelow g a m → IsAtOrBelow g b n → IsOwnAt g side m seq → IsOwnAt g side n seq → ⊥
  differ side w i j a b set m n seq f e k apart in_m in_n h l =
      let own = has_own g rules side w (kid_below g rules w i a e).2 in
      let one = own_through g side w i a m set own.0 f e in_m own.1 in
      let two = own_through g side w j b n set own.0 f k in_n own.1 in
      let left = own_same g rules side m seq (one.0 ++ move_of set i ∷ own.0) h one.1 in
      let right = own_same g rules side n seq (two.0 ++ move_of set j ∷ own.0) l two.1 in
      let move = same_move one.0 two.0 own.0 (move_of set i) (move_of set j) (sym left ∙ right) in
      let action : i ≡ j = ap (λ (x : SetId × ℕ). x.1) move in
      let there : kid_of g w i ≡ Some b = ap (kid_of g w) action ∙ k in
      let kid : a ≡ b = cc in
      apart kid

  -- all nodes of a set have the own sequence of one
  own_of_set : (side : Side) → HasRecall g side → (set m n : ℕ) (seq : Moves) → set_of g side m ≡ Some set → set_of g side n ≡ Some set
      → IsOwnAt g side m seq → IsOwnAt g side n seq
  unfolding HasRecall
  own_of_set side recall set m n seq at_m at_n h =
      let own = has_own g rules side n (set_node g side n set at_n).0 in
      subst (IsOwnAt g side n) (recall n m set own.0 seq at_n at_m own.1 h) own.1

  -- what is under a node and above what is at or below its kid is at or below that kid
  on_the_way : (w i a u v : ℕ) → kid_of g w i ≡ Some a → IsAbove g w u → IsAbove g u v → IsAtOrBelow g a v → IsAtOrBelow g a u
  on_the_way w i a u v e over above in_v =
      let kid = some_kid g w u over in
      let same = one_kid g rules w kid.0 i kid.1 a v kid.2 e (under_kid g rules kid.1 u v kid.3 above) in_v in
      at_same_kid g a kid.1 u (sym same) kid.3

  module _ (s : Side) (recall : HasRecall g (other s)) (public : IsPublicChance g) (set set' beside u u' v v' : ℕ) (seq : Moves)
      (at_u : set_of g s u ≡ Some set) (at_u' : set_of g s u' ≡ Some set') (apart : set ≡ set' → ⊥) (own_u : IsOwnAt g s u seq)
      (own_u' : IsOwnAt g s u' seq)
      (at_v : set_of g (other s) v ≡ Some beside) (at_v' : set_of g (other s) v' ≡ Some beside) (above : IsAbove g u v)
      (joined : IsAbove g u' v' ⊎ IsAbove g v' u') where
    not_over : IsAbove g u u' → ⊥
    not_over over = omega (arith, longer s u u' set seq seq at_u over own_u own_u')

    not_under : IsAbove g u' u → ⊥
    not_under over = omega (arith, longer s u' u set' seq seq at_u' over own_u' own_u)

    -- the first set's node isn't above the second node of the other player's set
    not_both : IsAbove g u v' → ⊥
    not_both over = elim joined [
      | inl up ↦ elim (comparable g rules u u' v' over up) [
        | inl same ↦
            let there : set_of g s u' ≡ Some set = ap (set_of g s) (sym same) ∙ at_u in
            let one : set ≡ set' = cc in
            apart one
        | inr one ↦ elim one [ inl first ↦ not_over first | inr second ↦ not_under second ]
      ]
      | inr down ↦ not_over (above_joined g rules u v' u' over down)
    ]

    -- nor do the two part at a node of the first set's player
    not_own : (w i j a b mine : ℕ) → set_of g s w ≡ Some mine → kid_of g w i ≡ Some a → kid_of g w j ≡ Some b → (a ≡ b → ⊥)
        → IsAtOrBelow g a v → IsAtOrBelow g b v' → IsAbove g w u → ⊥
    not_own w i j a b mine f e k other_kid in_v in_v' over =
        let in_u = on_the_way w i a u v e over above in_v in
        let over_v' = below_kid g rules w j b v' k in_v' in
        let own = has_own g rules s w (kid_below g rules w i a e).2 in
        let more = longer s w u mine own.0 seq f over own.1 own_u in
        elim joined [
          | inl up ↦ elim (comparable g rules w u' v' over_v' up) [
            | inl same ↦
                let here : IsOwnAt g s w seq = subst (λ (x : ℕ). IsOwnAt g s x seq) (sym same) own_u' in
                omega (arith, more, ap (λ (l : Moves). length l) (own_same g rules s w own.0 seq own.1 here))
            | inr one ↦ elim one [
              | inl first ↦ differ s w i j a b mine u u' seq f e k other_kid in_u (on_the_way w j b u' v' k first up in_v') own_u own_u'
              | inr second ↦ omega (arith, more, no_shorter s u' w seq own.0 second own_u' own.1)
            ]
          ]
          | inr down ↦ differ s w i j a b mine u u' seq f e k other_kid in_u (under_kid g rules b v' u' in_v' down) own_u own_u'
        ]

    not_parted : PartSomewhere g v v' → ⊥
    unfolding IsPublicChance
    not_parted part =
        let w = part.0 in
        let own = has_own g rules (other s) v (set_node g (other s) v beside at_v).0 in
        let own' = own_of_set (other s) recall beside v v' own.0 at_v at_v' own.1 in
        let over_v = below_kid g rules w part.1 part.3 v part.5 part.8 in
        let over_v' = below_kid g rules w part.2 part.4 v' part.6 part.9 in
        elim (mover_of g rules w part.1 part.3 part.5) [
          | inl chance ↦ public w part.1 part.2 part.3 part.4 chance part.5 part.6 part.7
              (other s, v, v', beside, at_v, at_v', part.8, part.9)
          | inr mover ↦ elim (either_side s mover.0) [
            | inl mine ↦
                let here : set_of g s w ≡ Some mover.1 = subst (λ (x : Side). set_of g x w ≡ Some mover.1) mine mover.2 in
                elim (comparable g rules w u v over_v above) [
                  | inl same ↦ not_both (subst (λ (x : ℕ). IsAbove g x v') same over_v')
                  | inr one ↦ elim one [
                    | inl first ↦ not_own w part.1 part.2 part.3 part.4 mover.1 here part.5 part.6 part.7 part.8 part.9 first
                    | inr second ↦ not_both (above_joined g rules u w v' second over_v')
                  ]
                ]
            | inr theirs ↦
                let here : set_of g (other s) w ≡ Some mover.1 = subst (λ (x : Side). set_of g x w ≡ Some mover.1) theirs mover.2 in
                differ (other s) w part.1 part.2 part.3 part.4 mover.1 v v' own.0 here part.5 part.6 part.7 part.8 part.9 own.1 own'
          ]
        ]

    pub none_across : ⊥
    none_across = elim (part_or_related g rules v v' (set_node g (other s) v beside at_v).0 (set_node g (other s) v' beside at_v').0) [
      | inl related ↦ elim related [
        | inl same ↦ not_both (subst (IsAbove g u) same above)
        | inr one ↦ elim one [
          | inl first ↦ not_both (above_joined g rules u v v' above first)
          | inr second ↦
              let own = has_own g rules (other s) v (set_node g (other s) v beside at_v).0 in
              let own' = own_of_set (other s) recall beside v v' own.0 at_v at_v' own.1 in
              omega (arith, longer (other s) v' v beside own.0 own.0 at_v' second own' own.1)
        ]
      ]
      | inr part ↦ not_parted part
    ]

turned : (g : GameView) (m n : ℕ) → IsAbove g m n ⊎ IsAbove g n m → IsAbove g n m ⊎ IsAbove g m n
turned g m n (inl h) = inr h
turned g m n (inr h) = inl h

-- public chance leaves no triangle in the tree
pub none_in_tree : (g : GameView) → IsGame g → ((side : Side) → HasRecall g side) → IsPublicChance g → (q : Quad) → IsTreeTriangle g q → ⊥
none_in_tree g rules recall public q t =
    let x = t.across in
    let y = t.second in
    let z = t.first in
    let one = t.one.1 in
    let two = t.two.1 in
    elim x.4 [
      | inl above ↦
          let own_u = own_of_set g rules One (recall One) q.one_a.0 one.0 x.0 one.2 one.3 x.2 one.5 in
          let own_u' = own_of_set g rules One (recall One) q.one_b.0 one.1 y.0 one.2 one.4 y.2 one.6 in
          none_across g rules One (recall Two) public q.one_a.0 q.one_b.0 q.two_b.0 x.0 y.0 x.1 y.1 one.2 x.2 y.2 t.one.0 own_u own_u'
          x.3 y.3 above y.4
      | inr below ↦
          let own_u = own_of_set g rules Two (recall Two) q.two_b.0 two.1 x.1 two.2 two.4 x.3 two.6 in
          let own_u' = own_of_set g rules Two (recall Two) q.two_a.0 two.0 z.1 two.2 two.3 z.3 two.5 in
          none_across g rules Two (recall One) public q.two_b.0 q.two_a.0 q.one_a.0 x.1 z.1 x.0 z.0 two.2 x.3 z.3
          (λ same. t.two.0 (sym same)) own_u own_u' x.2 z.2 below
          (turned g z.0 z.1 z.4)
    ]

pub none_in_pairs : (g : GameView) (p : PairsView) → IsGame g → ((side : Side) → HasRecall g side) → IsPairs p → IsPairsOf g p
    → IsPublicChance g → HasNoTriangle p
none_in_pairs g p rules recall keeps of public = λ q t. none_in_tree g rules recall public q ((by_tree g p q rules recall keeps of).0 t)
