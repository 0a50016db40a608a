-- By recall the triangles are those of the tree: two sets' own sequences have one number exactly where they are the same,
-- since they have one last move, and before it the one own sequence of that move's set.
use Rattle.std.proofs.Common.{◌≡◌, ◌↔◌, ℕ, ◌<◌, true, zero, suc, List, [], ◌∷◌, Option, Some, None, length, refl, sym, ap, subst, ◌∙◌, inl, inr, arith}
use Rattle.corr_game.specs.declared.nodes.Node.{Node}
use Rattle.corr_game.specs.declared.nodes.Node.TheVariants.{Leaf, Chance, Choice}
use Rattle.corr_game.specs.declared.nodes.SetId.{SetId}
use Rattle.corr_game.specs.declared.sides.Side.{Side}
use Rattle.corr_game.specs.declared.sides.Side.TheVariants.{One, Two}
use Rattle.corr_game.specs.Node.{set_at}
use Rattle.corr_game.specs.Game.{GameView, IsGame, IsNode, sets_of}
use Rattle.tree_recall.specs.Tree.{set_of}
use Rattle.tree_recall.specs.OwnSequence.{HasRecall, IsOwnAt, latest}
use Rattle.tree_recall.proofs.Kids.{set_node}
use Rattle.tree_recall.proofs.OwnSequences.{has_own, made_above}
use Rattle.sequences.specs.declared.places.Place.{Place}
use Rattle.sequences.specs.Number.{AreOwn, Ends, HasNumber, IsSide, IsSideOf, SideView, last_of}
use Rattle.sequences.proofs.Adding.{within}
use Rattle.sequences.proofs.Numbering.{some_node}
use Rattle.connected_pairs.specs.Connected.{IsPairs, IsPairsOf, PairsView, TellsConnected, are_connected}
use Rattle.connected_pairs.specs.Table.{AreConnected}
use Rattle.triangle_test.specs.declared.triangles.Quad.{Quad}
use Rattle.triangle_test.specs.TreeTriangle.{AreTreeSiblings, IsLeastTreeTriangle, IsTreeTriangle}
use Rattle.triangle_test.specs.Triangle.{AreSiblings, IsLeastTriangle, IsTriangle}
use Rattle.triangle_test.proofs.Ruled.{first_in, second_in}

node_set : (g : GameView) (n : ℕ) (side : Side) (node : Node) (set : ℕ) → IsNode g n node → set_at side node ≡ Some set
    → set < length (sets_of side g)
node_set g n side (Leaf pay) set h e = absurd (cc)
node_set g n side (Chance kids) set h e = absurd (cc)
node_set g n One (Choice One named kids) set h e = let same : named.0 ≡ set = cc in rw (← same) h.0
node_set g n One (Choice Two named kids) set h e = absurd (cc)
node_set g n Two (Choice One named kids) set h e = absurd (cc)
node_set g n Two (Choice Two named kids) set h e = let same : named.0 ≡ set = cc in rw (← same) h.0

-- the set of a node is one of its player's
pub set_known : (g : GameView) → IsGame g → (side : Side) (n set : ℕ) → set_of g side n ≡ Some set → set < length (sets_of side g)
set_known g rules side n set e =
    let at = (set_node g side n set e).1 in
    node_set g n side at.0 set (rules.each_node n at.0 at.1) at.2

one_number : (places : List Place) (last : Option (SetId × ℕ)) (m n : ℕ) → HasNumber places last m → HasNumber places last n → m ≡ n
one_number places None m n h k = h ∙ sym k
one_number places (Some move) m n h k =
    let same : h.0 ≡ k.0 = cc in
    omega (arith, h.3, k.3, ap (λ (x : Place). x.first) same)

ends_last : (v : SideView) → IsSide v → (move : SetId × ℕ) (seq : ℕ) → Ends v.places move seq → last_of v seq ≡ Some move
ends_last v side move zero h = absurd (omega (arith, h.3, side.numbered.own_before move.0.0 h.0 h.1))
ends_last v side move (suc k) h = side.numbered.each_move move k (h.0, h.1, h.2, omega (arith, h.3))

number_last : (v : SideView) → IsSide v → (last : Option (SetId × ℕ)) (seq : ℕ) → HasNumber v.places last seq → last_of v seq ≡ last
number_last v side None seq h = rw h refl
number_last v side (Some move) seq h = ends_last v side move seq h

-- by recall own sequences with one latest move are the same
same_own : (g : GameView) (side : Side) → HasRecall g side → (m n : ℕ) (a b : List (SetId × ℕ)) → IsOwnAt g side m a → IsOwnAt g side n b
    → latest a ≡ latest b → a ≡ b
unfolding HasRecall
same_own g side recall m n [] [] h k e = refl
same_own g side recall m n [] (y ∷ ys) h k e = absurd (cc)
same_own g side recall m n (x ∷ xs) [] h k e = absurd (cc)
same_own g side recall m n (x ∷ xs) (y ∷ ys) h k e =
    let same : y ≡ x = cc in
    let up = made_above g side m (x ∷ xs) h x xs refl in
    let over = made_above g side n (y ∷ ys) k y ys refl in
    let there : set_of g side over.0 ≡ Some x.0.0 = over.2 ∙ ap (λ (z : SetId × ℕ). Some z.0.0) same in
    let rest : xs ≡ ys = recall up.0 over.0 x.0.0 xs ys up.2 there up.3 over.3 in
    rw (same, rest) refl

module _ (g : GameView) (rules : IsGame g) (side : Side) (recall : HasRecall g side) (v : SideView) (keeps : IsSide v)
    (of : IsSideOf side g v) where
  siblings_numbered : (a b : ℕ) → AreTreeSiblings g side a b → AreSiblings v a b
  unfolding AreOwn
  siblings_numbered a b h =
      let at = h.1 in
      let last = latest at.2 in
      let one = within v.places a (omega (arith, set_known g rules side at.0 a at.3, of.per_set)) in
      let two = within v.places b (omega (arith, set_known g rules side at.1 b at.4, of.per_set)) in
      let first = of.own_of_tree at.0 a one.0 last at.3 one.1 (at.2, at.5, refl) in
      let second = of.own_of_tree at.1 b two.0 last at.4 two.1 (at.2, at.6, refl) in
      (h.0, (one.0.own, (one.0, one.1, refl), (two.0, two.1, one_number v.places last two.0.own one.0.own second first)))

  siblings_treed : (a b : ℕ) → AreSiblings v a b → AreTreeSiblings g side a b
  unfolding AreOwn
  siblings_treed a b h =
      let one = h.1.1 in
      let two = h.1.2 in
      let m = some_node g rules side a (omega (arith, first_in v a b h, of.per_set)) in
      let n = some_node g rules side b (omega (arith, second_in v a b h, of.per_set)) in
      let own_m = has_own g rules side m.0 (set_node g side m.0 a m.1).0 in
      let own_n = has_own g rules side n.0 (set_node g side n.0 b n.1).0 in
      let first = of.own_of_tree m.0 a one.0 (latest own_m.0) m.1 one.1 (own_m.0, own_m.1, refl) in
      let second = of.own_of_tree n.0 b two.0 (latest own_n.0) n.1 two.1 (own_n.0, own_n.1, refl) in
      let number : one.0.own ≡ two.0.own = one.2 ∙ sym two.2 in
      let last : latest own_m.0 ≡ latest own_n.0 = sym (number_last v keeps (latest own_m.0) one.0.own first)
      ∙ (ap (last_of v) number ∙ number_last v keeps (latest own_n.0) two.0.own second) in
      let same = same_own g side recall m.0 n.0 own_m.0 own_n.0 own_m.1 own_n.1 last in
      let P : List (SetId × ℕ) → Type 0 = IsOwnAt g side n.0 in
      (h.0, (m.0, n.0, own_m.0, m.1, n.1, own_m.1, subst P (sym same) own_n.1))

module _ (g : GameView) (p : PairsView) (rules : IsGame g) (recall : (side : Side) → HasRecall g side) (keeps : IsPairs p)
    (of : IsPairsOf g p) where
  tells : (one two : ℕ) → one < length p.seqs.one.places → two < length p.seqs.two.places
      → (are_connected p one two ≡ true) ↔ AreConnected g one two
  unfolding TellsConnected
  tells = of.connected

  to_tree : (q : Quad) → IsTriangle p q → IsTreeTriangle g q
  to_tree q t =
      let one_a = first_in p.seqs.one q.one_a.0 q.one_b.0 t.one in
      let one_b = second_in p.seqs.one q.one_a.0 q.one_b.0 t.one in
      let two_a = first_in p.seqs.two q.two_a.0 q.two_b.0 t.two in
      let two_b = second_in p.seqs.two q.two_a.0 q.two_b.0 t.two in
      record {
        one = siblings_treed g rules One (recall One) p.seqs.one (keeps.sides One) (of.sides One) q.one_a.0 q.one_b.0 t.one;
        two = siblings_treed g rules Two (recall Two) p.seqs.two (keeps.sides Two) (of.sides Two) q.two_a.0 q.two_b.0 t.two;
        first = (tells q.one_a.0 q.two_a.0 one_a two_a).0 t.first;
        second = (tells q.one_b.0 q.two_b.0 one_b two_b).0 t.second;
        across = (tells q.one_a.0 q.two_b.0 one_a two_b).0 t.across;
      }

  from_tree : (q : Quad) → IsTreeTriangle g q → IsTriangle p q
  from_tree q t =
      let one = siblings_numbered g rules One (recall One) p.seqs.one (keeps.sides One) (of.sides One) q.one_a.0 q.one_b.0 t.one in
      let two = siblings_numbered g rules Two (recall Two) p.seqs.two (keeps.sides Two) (of.sides Two) q.two_a.0 q.two_b.0 t.two in
      let one_a = first_in p.seqs.one q.one_a.0 q.one_b.0 one in
      let one_b = second_in p.seqs.one q.one_a.0 q.one_b.0 one in
      let two_a = first_in p.seqs.two q.two_a.0 q.two_b.0 two in
      let two_b = second_in p.seqs.two q.two_a.0 q.two_b.0 two in
      record {
        one = one;
        two = two;
        first = (tells q.one_a.0 q.two_a.0 one_a two_a).1 t.first;
        second = (tells q.one_b.0 q.two_b.0 one_b two_b).1 t.second;
        across = (tells q.one_a.0 q.two_b.0 one_a two_b).1 t.across;
      }

  least_to_tree : (q : Quad) → IsLeastTriangle p q → IsLeastTreeTriangle g q
  least_to_tree q h = record {
    triangle = to_tree q h.least.least.least.triangle;
    none_before = λ r less t.
        let tri = from_tree r t in
        elim less [
          | inl one_a ↦ h.none_before r.one_a.0 one_a r refl tri
          | inr one ↦ elim one.1 [
            | inl one_b ↦ h.least.none_before r.one_b.0 one_b r one.0 refl tri
            | inr both ↦ elim both.1 [
              | inl two_a ↦ h.least.least.none_before r.two_a.0 two_a r one.0 both.0 refl tri
              | inr three ↦ elim three.1 [
                | inl two_b ↦ h.least.least.least.none_before r.two_b.0 two_b r one.0 both.0 three.0 refl tri
                | inr none ↦ absurd (none.1)
              ]
            ]
          ]
        ];
  }

  least_from_tree : (q : Quad) → IsLeastTreeTriangle g q → IsLeastTriangle p q
  least_from_tree q h = record {
    least = record {
      least = record {
        least = record {
          first = refl;
          second = refl;
          third = refl;
          triangle = from_tree q h.triangle;
          none_before = λ k lt r a b c d tri.
              h.none_before r (inr (a, inr (b, inr (c, inl (omega (arith, lt, d)))))) (to_tree r tri);
        };
        none_before = λ k lt r a b c tri. h.none_before r (inr (a, inr (b, inl (omega (arith, lt, c))))) (to_tree r tri);
      };
      none_before = λ k lt r a b tri. h.none_before r (inr (a, inl (omega (arith, lt, b)))) (to_tree r tri);
    };
    none_before = λ k lt r a tri. h.none_before r (inl (omega (arith, lt, a))) (to_tree r tri);
  }

pub by_tree : (g : GameView) (p : PairsView) (q : Quad) → IsGame g → ((side : Side) → HasRecall g side) → IsPairs p → IsPairsOf g p
    → IsTriangle p q ↔ IsTreeTriangle g q
by_tree g p q rules recall keeps of = (to_tree g p rules recall keeps of q, from_tree g p rules recall keeps of q)

pub least_by_tree : (g : GameView) (p : PairsView) (q : Quad) → IsGame g → ((side : Side) → HasRecall g side) → IsPairs p → IsPairsOf g p
    → IsLeastTriangle p q ↔ IsLeastTreeTriangle g q
least_by_tree g p q rules recall keeps of = (least_to_tree g p rules recall keeps of q, least_from_tree g p rules recall keeps of q)
