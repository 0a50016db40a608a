-- A game has one numbering: the sets have their first numbers in turn, a set's own number is that of the last own move at
-- one of its nodes, and a sequence's last move is told by its number.
use Rattle.std.proofs.Common.{◌≡◌, ℕ, ◌+◌, ◌<◌, ◌≤◌, List, [], ◌∷◌, Option, Some, None, suc, length, slice_get, refl, sym, ap, ap₂, ◌∙◌, subst, inl, inr, arith, max}
use Rattle.std.proofs.lemmas.Bool.{cases_lt}
use Rattle.std.proofs.lemmas.Option.{slice_get_within}
use Rattle.corr_game.specs.declared.nodes.Node.{Node}
use Rattle.corr_game.specs.declared.nodes.SetId.{SetId}
use Rattle.corr_game.specs.declared.nodes.SetInfo.{SetInfo}
use Rattle.corr_game.specs.declared.sides.Side.{Side}
use Rattle.corr_game.specs.declared.sides.Side.TheVariants.{One, Two}
use Rattle.corr_game.specs.Node.{set_at}
use Rattle.corr_game.specs.Sets.{AreInOrder, IsMetOrNext, met_with}
use Rattle.corr_game.specs.Game.{GameView, IsGame, sets_of}
use Rattle.tree_recall.specs.Tree.{set_of}
use Rattle.tree_recall.proofs.Kids.{set_node}
use Rattle.tree_recall.proofs.OwnSequences.{has_last}
use Rattle.sequences.specs.declared.places.Place.{Place}
use Rattle.sequences.specs.Number.{AreAtNodes, AreInTurn, AreOwn, HasNumber, IsNumbered, IsSeqsOf, IsSide, IsSideOf, SeqsView, SideView, side_of}
use Rattle.sequences.proofs.Adding.{within}

-- lists with the same entries are the same
pub same_list : {X : Type 0} (xs ys : List X) → ((k : ℕ) (x : X) → slice_get xs k ≡ Some x → slice_get ys k ≡ Some x)
    → ((k : ℕ) (x : X) → slice_get ys k ≡ Some x → slice_get xs k ≡ Some x) → xs ≡ ys
same_list [] [] to from = refl
same_list [] (y ∷ ys) to from = let none = from 0 y refl in absurd (cc)
same_list (x ∷ xs) [] to from = let none = to 0 x refl in absurd (cc)
same_list {X = X} (x ∷ xs) (y ∷ ys) to from =
    let first : Some y ≡ Some x = to 0 x refl in
    let same : x ≡ y = cc in
    let rest : xs ≡ ys = same_list xs ys (λ k z h. to (suc k) z h) (λ k z h. from (suc k) z h) in
    ap₂ (λ (z : X) (zs : List X). z ∷ zs) same rest

-- some node of these is of this set
abbrev pub IsMetIn : Side → List Node → ℕ → Type 0
IsMetIn side nodes set = (k : ℕ) × (node : Node) × (slice_get nodes k ≡ Some node) × (set_at side node ≡ Some set)

met_next : (side : Side) (set met count : ℕ) (node : Node) (rest : List Node) (here : Option ℕ) → set_at side node ≡ here
    → IsMetOrNext met here
    → AreInOrder side (met_with met here) rest count → met ≤ set
    → ((more : ℕ) → AreInOrder side more rest count → more ≤ set → IsMetIn side rest set) → IsMetIn side (node ∷ rest) set
met_next side set met count node rest None e next order low later =
    let there = later met order low in
    (suc there.0, there.1, there.2, there.3)
met_next side set met count node rest (Some here) e next order low later = elim (cases_lt here set) [
  | inl less ↦
      let there = later (max met (here + 1)) order (omega arith) in
      (suc there.0, there.1, there.2, there.3)
  | inr last ↦
      let same : here ≡ set = omega arith in
      (0, node, refl, e ∙ ap Some same)
]

met_in : (side : Side) (set met count : ℕ) (nodes : List Node) → AreInOrder side met nodes count → met ≤ set → set < count
    → IsMetIn side nodes set
unfolding AreInOrder
met_in side set met count [] h low high = absurd (omega (arith, h))
met_in side set met count (node ∷ rest) h low high =
    met_next side set met count node rest (set_at side node) refl h.0 h.1 low
    (λ more order few. met_in side set more count rest order few high)

-- each set has a node
pub some_node : (g : GameView) → IsGame g → (side : Side) (set : ℕ) → set < length (sets_of side g)
    → (n : ℕ) × (set_of g side n ≡ Some set)
some_node g rules side set low =
    let met = met_in side set 0 (length (sets_of side g)) g.nodes (rules.in_order side) (omega arith) low in
    (met.0, rw met.2 met.3)

abbrev place_of : ℕ → ℕ → ℕ → Place
place_of own first actions = record { own = own; first = first; actions = actions }

same_place : (x y : Place) → x.own ≡ y.own → x.first ≡ y.first → x.actions ≡ y.actions → x ≡ y
same_place x y own first actions =
    ap (λ (n : ℕ). place_of n x.first x.actions) own ∙ (ap (λ (n : ℕ). place_of y.own n x.actions) first ∙ ap
    (λ (n : ℕ). place_of y.own y.first n) actions)

abbrev side_with : List Place → List (SetId × ℕ) → List ℕ → SideView
side_with places lasts nodes = record { places = places; lasts = lasts; nodes = nodes }

same_side_view : (x y : SideView) → x.places ≡ y.places → x.lasts ≡ y.lasts → x.nodes ≡ y.nodes → x ≡ y
same_side_view x y places lasts nodes =
    ap (λ (p : List Place). side_with p x.lasts x.nodes) places ∙ (ap (λ (l : List (SetId × ℕ)). side_with y.places l x.nodes) lasts ∙ ap
    (λ (n : List ℕ). side_with y.places y.lasts n) nodes)

abbrev seqs_with : SideView → SideView → SeqsView
seqs_with one two = record { one = one; two = two }

same_seqs : (x y : SeqsView) → x.one ≡ y.one → x.two ≡ y.two → x ≡ y
same_seqs x y one two = ap (λ (v : SideView). seqs_with v x.two) one ∙ ap (λ (v : SideView). seqs_with y.one v) two

same_number : (sets : List SetInfo) (a b : List Place) → AreInTurn sets a → AreInTurn sets b → (last : Option (SetId × ℕ)) (m n : ℕ)
    → HasNumber a last m → HasNumber b last n → m ≡ n
same_number sets a b first second None m n h k = h ∙ sym k
same_number sets a b first second (Some move) m n h k = omega (arith, first move.0.0 h.0 h.1, second move.0.0 k.0 k.1, h.3, k.3)

module _ (g : GameView) (rules : IsGame g) (side : Side) where
  places_at : (a b : SideView) → IsSideOf side g a → IsSideOf side g b → (set : ℕ) (x : Place) → slice_get a.places set ≡ Some x
      → slice_get b.places set ≡ Some x
  unfolding AreOwn
  places_at a b first second set x h =
      let low : set < length (sets_of side g) = omega (arith, slice_get_within a.places set x h, first.per_set) in
      let there = within b.places set (omega (arith, low, second.per_set)) in
      let info = within (sets_of side g) set low in
      let node = some_node g rules side set low in
      let last = has_last g rules side node.0 (set_node g side node.0 set node.1).0 in
      let own = same_number (sets_of side g) a.places b.places first.in_turn second.in_turn last.0 x.own there.0.own
      (first.own_of_tree node.0 set x last.0 node.1 h last.1)
      (second.own_of_tree node.0 set there.0 last.0 node.1 there.1 last.1) in
      let start : x.first ≡ there.0.first = first.in_turn set x h ∙ sym (second.in_turn set there.0 there.1) in
      let actions : x.actions ≡ there.0.actions = first.same_actions set x info.0 h info.1 ∙ sym
      (second.same_actions set there.0 info.0 there.1 info.1) in
      there.1 ∙ ap Some (sym (same_place x there.0 own start actions))

  nodes_at : (a b : SideView) → IsSideOf side g a → IsSideOf side g b → (n seq : ℕ) → slice_get a.nodes n ≡ Some seq
      → slice_get b.nodes n ≡ Some seq
  unfolding AreAtNodes
  nodes_at a b first second n seq h =
      let low : n < length g.nodes = omega (arith, slice_get_within a.nodes n seq h, first.per_node) in
      let there = within b.nodes n (omega (arith, low, second.per_node)) in
      let last = has_last g rules side n low in
      let same = same_number (sets_of side g) a.places b.places first.in_turn second.in_turn last.0 seq there.0
      (first.at_nodes n seq last.0 h last.1) (second.at_nodes n there.0 last.0 there.1 last.1) in
      there.1 ∙ ap Some (sym same)

  pub one_side : (a b : SideView) → IsSide a → IsSide b → IsSideOf side g a → IsSideOf side g b → a ≡ b
  one_side a b numbered_a numbered_b first second =
      let places : a.places ≡ b.places = same_list a.places b.places (places_at a b first second) (places_at b a second first) in
      let P : List Place → List (SetId × ℕ) → Type 0 = λ ps ls. IsNumbered ps ls in
      let there : IsNumbered b.places a.lasts = subst (λ ps. P ps a.lasts) places numbered_a.numbered in
      let lasts : a.lasts ≡ b.lasts = same_list a.lasts b.lasts (λ k move h. numbered_b.numbered.each_move move k
      (there.each_last k move h)) (λ k move h. there.each_move move k (numbered_b.numbered.each_last k move h)) in
      let nodes : a.nodes ≡ b.nodes = same_list a.nodes b.nodes (nodes_at a b first second) (nodes_at b a second first) in
      same_side_view a b places lasts nodes

-- a game has one numbering
pub one_numbering : (g : GameView) (a b : SeqsView) → IsGame g → ((side : Side) → IsSide (side_of side a))
    → ((side : Side) → IsSide (side_of side b)) → IsSeqsOf g a → IsSeqsOf g b → a ≡ b
one_numbering g a b rules numbered_a numbered_b first second =
    let one : a.one ≡ b.one = one_side g rules One a.one b.one (numbered_a One) (numbered_b One) (first.sides One) (second.sides One) in
    let two : a.two ≡ b.two = one_side g rules Two a.two b.two (numbered_a Two) (numbered_b Two) (first.sides Two) (second.sides Two) in
    same_seqs a b one two
