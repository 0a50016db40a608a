-- A test of the rules of a game that computes, for games that are written out: each part of the test gives its rule.
use Rattle.std.proofs.Common.{◌≡◌, ℕ, ◌+◌, ◌^◌, ◌<◌, ◌≤◌, suc, zero, List, [], ◌∷◌, Option, Some, None, Bool, true, false, not, ◌&&◌, inl, inr, length, map, slice_get, All, eqb, ltb, leb, refl, arith, ℤ, pos}
use Rattle.std.specs.Prelude.{unsigned_abs, nat_eq, negsuc}
use Rattle.std.specs.List.{IsDistinct, AllByRecursion}
use Rattle.std.proofs.lemmas.Bool.{cases_eq}
use Rattle.std.proofs.lemmas.Bool.Decides.{nat_tests}
use Rattle.std.proofs.lemmas.Int.{ints}
use Rattle.std.proofs.lemmas.List.Elements.{All-nil, All-cons}
use Rattle.corr_game.specs.declared.nodes.Node.{Node}
use Rattle.corr_game.specs.declared.nodes.Node.TheVariants.{Leaf, Chance, Choice}
use Rattle.corr_game.specs.declared.nodes.SetInfo.{SetInfo}
use Rattle.corr_game.specs.declared.sides.Side.{Side}
use Rattle.corr_game.specs.declared.sides.Side.TheVariants.{One, Two}
use Rattle.corr_game.specs.Node.{kids_of, set_at}
use Rattle.corr_game.specs.Preorder.{InRow, end_of, depth_of}
use Rattle.corr_game.specs.Sets.{AreInOrder, IsMetOrNext, met_with}
use Rattle.corr_game.specs.Game.{GameView, IsGame, IsNode, IsSet, IsScale, AreBehind, sets_of, scale_of}

left : (a b : Bool) → (a && b) ≡ true → a ≡ true
left true b h = refl
left false b h = absurd (cc)

right : (a b : Bool) → (a && b) ≡ true → b ≡ true
right true b h = h
right false b h = absurd (cc)

below : (a b : ℕ) → ltb a b ≡ true → a < b
below a b h = grind (arith, nat_tests)

at_most : (a b : ℕ) → leb a b ≡ true → a ≤ b
at_most a b h = grind (arith, nat_tests)

same : (a b : ℕ) → eqb a b ≡ true → a ≡ b
same a b h = grind (arith, nat_tests)

abbrev pub kids_pass : ℕ → ℕ → List ℕ → Bool
kids_pass count n [] = true
kids_pass count n (kid ∷ kids) = ltb n kid && (ltb kid count && kids_pass count n kids)

kids-pass : (count n : ℕ) (kids : List ℕ) → kids_pass count n kids ≡ true → AreBehind count n kids
kids-pass count n [] h = All-nil (λ kid. (n < kid) × (kid < count))
kids-pass count n (kid ∷ kids) h =
    let rest = right (ltb n kid) _ h in
    All-cons (λ m. (n < m) × (m < count)) kid kids (below n kid (left _ _ h), below kid count (left _ _ rest)) (kids-pass count n kids (right (ltb kid count) _ rest))

abbrev pub count_fits : List ℕ → Option SetInfo → Bool
count_fits kids None = true
count_fits kids (Some info) = eqb (length kids) info.actions

count-fits : (kids : List ℕ) (found : Option SetInfo) → count_fits kids found ≡ true → (info : SetInfo) → found ≡ Some info → length kids ≡ info.actions
count-fits kids None h info e = absurd (cc)
count-fits kids (Some other) h info e = let one : other ≡ info = cc in rw (← one) (same (length kids) other.actions h)

abbrev pub node_passes : GameView → ℕ → Node → Bool
node_passes g n (Leaf pay) = leb (unsigned_abs pay.one) (2 ^ 28) && leb (unsigned_abs pay.two) (2 ^ 28)
node_passes g n (Chance kids) = leb 1 (length kids) && (leb (length kids) 64 && kids_pass (length g.nodes) n kids)
node_passes g n (Choice side set kids) =
    ltb set.0 (length (sets_of side g)) && (count_fits kids (slice_get (sets_of side g) set.0) && kids_pass (length g.nodes) n kids)

node-passes : (g : GameView) (n : ℕ) (node : Node) → node_passes g n node ≡ true → IsNode g n node
node-passes g n (Leaf pay) h = (at_most _ _ (left _ _ h), at_most _ _ (right (leb (unsigned_abs pay.one) (2 ^ 28)) _ h))
node-passes g n (Chance kids) h =
    let rest = right (leb 1 (length kids)) _ h in
    (at_most _ _ (left _ _ h), at_most _ _ (left _ _ rest), kids-pass _ n kids (right (leb (length kids) 64) _ rest))
node-passes g n (Choice side set kids) h =
    let rest = right (ltb set.0 (length (sets_of side g))) _ h in
    let fits = count_fits kids (slice_get (sets_of side g) set.0) in
    (below _ _ (left _ _ h), count-fits kids (slice_get (sets_of side g) set.0) (left fits _ rest), kids-pass _ n kids (right fits _ rest))

abbrev pub row_passes : ℕ → List ℕ → (ℕ → ℕ) → Bool
row_passes start [] ends = true
row_passes start (kid ∷ kids) ends = eqb kid start && row_passes (ends kid) kids ends

row-passes : (start : ℕ) (kids : List ℕ) (ends : ℕ → ℕ) → row_passes start kids ends ≡ true → InRow start kids ends
row-passes start [] ends h = tt
row-passes start (kid ∷ kids) ends h = (same _ _ (left _ _ h), row-passes (ends kid) kids ends (right (eqb kid start) _ h))

abbrev pub nodes_pass : GameView → ℕ → List Node → Bool
nodes_pass g at [] = true
nodes_pass g at (node ∷ rest) = node_passes g at node && (row_passes (at + 1) (kids_of node) (end_of g.nodes) && nodes_pass g (at + 1) rest)

nodes-pass : (g : GameView) (at : ℕ) (nodes : List Node) → nodes_pass g at nodes ≡ true → (k n : ℕ) (node : Node) → n ≡ at + k → slice_get nodes k ≡ Some node → IsNode g n node × InRow (n + 1) (kids_of node) (end_of g.nodes)
nodes-pass g at [] h k n node e s = absurd (cc)
nodes-pass g at (x ∷ xs) h zero n node e s =
    let here : n ≡ at = omega arith in
    let one : x ≡ node = cc in
    rw (here, ← one) (node-passes g at x (left _ _ h), row-passes (at + 1) (kids_of x) (end_of g.nodes) (left _ _ (right (node_passes g at x) _ h)))
nodes-pass g at (x ∷ xs) h (suc k) n node e s =
    nodes-pass g (at + 1) xs (right (row_passes (at + 1) (kids_of x) (end_of g.nodes)) _ (right (node_passes g at x) _ h)) k n node (omega arith) s

abbrev pub depths_pass : List Node → ℕ → Bool
depths_pass nodes zero = true
depths_pass nodes (suc n) = leb (depth_of nodes n) 256 && depths_pass nodes n

depths-pass : (nodes : List Node) (count : ℕ) → depths_pass nodes count ≡ true → (n : ℕ) → n < count → depth_of nodes n ≤ 256
depths-pass nodes zero h n l = absurd (omega arith)
depths-pass nodes (suc m) h n l =
    elim (cases_eq n m) [
      | inl e ↦ rw e (at_most _ _ (left _ _ h))
      | inr apart ↦ depths-pass nodes m (right (leb (depth_of nodes m) 256) _ h) n (omega arith)
    ]

abbrev pub sets_pass : List SetInfo → Bool
sets_pass [] = true
sets_pass (info ∷ rest) = leb 1 info.actions && (leb info.actions 64 && (ltb info.file (2 ^ 31) && sets_pass rest))

sets-pass : (sets : List SetInfo) → sets_pass sets ≡ true → All IsSet sets
sets-pass [] h = All-nil IsSet
sets-pass (info ∷ rest) h =
    let second = right (leb 1 info.actions) _ h in
    let third = right (leb info.actions 64) _ second in
    All-cons IsSet info rest (at_most _ _ (left _ _ h), at_most _ _ (left _ _ second), below _ _ (left _ _ third)) (sets-pass rest (right (ltb info.file (2 ^ 31)) _ third))

abbrev pub next_passes : ℕ → Option ℕ → Bool
next_passes met None = true
next_passes met (Some set) = leb set met

next-passes : (met : ℕ) (set : Option ℕ) → next_passes met set ≡ true → IsMetOrNext met set
next-passes met None h = tt
next-passes met (Some set) h = at_most _ _ h

abbrev pub order_passes : Side → ℕ → List Node → ℕ → Bool
order_passes side met [] count = eqb met count
order_passes side met (node ∷ rest) count = next_passes met (set_at side node) && order_passes side (met_with met (set_at side node)) rest count

order-passes : (side : Side) (met : ℕ) (nodes : List Node) (count : ℕ) → order_passes side met nodes count ≡ true → AreInOrder side met nodes count
unfolding AreInOrder
order-passes side met [] count h = same _ _ h
order-passes side met (node ∷ rest) count h =
    (next-passes met (set_at side node) (left _ _ h), order-passes side (met_with met (set_at side node)) rest count (right (next_passes met (set_at side node)) _ h))

abbrev pub apart_from : ℕ → List ℕ → Bool
apart_from x [] = true
apart_from x (y ∷ ys) = not (nat_eq x y) && apart_from x ys

differ : (b : Bool) → not b ≡ true → b ≡ false
differ true h = absurd (cc)
differ false h = refl

apart-from : (x : ℕ) (ys : List ℕ) → apart_from x ys ≡ true → AllByRecursion (λ y. nat_eq x y ≡ false) ys
apart-from x [] h = tt
apart-from x (y ∷ ys) h = (differ (nat_eq x y) (left _ _ h), apart-from x ys (right (not (nat_eq x y)) _ h))

abbrev pub distinct_passes : List ℕ → Bool
distinct_passes [] = true
distinct_passes (x ∷ xs) = apart_from x xs && distinct_passes xs

distinct-passes : (xs : List ℕ) → distinct_passes xs ≡ true → IsDistinct nat_eq xs
unfolding IsDistinct
distinct-passes [] h = tt
distinct-passes (x ∷ xs) h = (apart-from x xs (left _ _ h), distinct-passes xs (right (apart_from x xs) _ h))

abbrev pub scale_passes : ℤ → Bool
scale_passes (pos n) = leb 1 n && leb n (2 ^ 24)
scale_passes (negsuc n) = false

scale-passes : (scale : ℤ) → scale_passes scale ≡ true → IsScale scale
scale-passes (pos n) h =
    let low : 1 ≤ n = at_most _ _ (left _ _ h) in
    let high : n ≤ 2 ^ 24 = at_most _ _ (right (leb 1 n) _ h) in
    (omega (arith, ints), omega (arith, ints))
scale-passes (negsuc n) h = absurd (cc)

-- the rules of one side
abbrev pub side_passes : GameView → Side → Bool
side_passes g side =
    (sets_pass (sets_of side g) && order_passes side 0 g.nodes (length (sets_of side g)))
    && (distinct_passes (map (λ (info : SetInfo). info.file) (sets_of side g)) && scale_passes (scale_of side g))

both : (g : GameView) → side_passes g One ≡ true → side_passes g Two ≡ true → (side : Side) → side_passes g side ≡ true
both g one two One = one
both g one two Two = two

-- the rules of the tree
abbrev pub tree_passes : GameView → Bool
tree_passes g =
    (ltb 0 (length g.nodes) && leb (length g.nodes) 4096)
    && (nodes_pass g 0 g.nodes && (eqb (end_of g.nodes 0) (length g.nodes) && depths_pass g.nodes (length g.nodes)))

pub IsGame-tested : (g : GameView) → tree_passes g ≡ true → side_passes g One ≡ true → side_passes g Two ≡ true → IsGame g
IsGame-tested g tree one two =
    let size = left (ltb 0 (length g.nodes) && leb (length g.nodes) 4096) _ tree in
    let nodes = right (ltb 0 (length g.nodes) && leb (length g.nodes) 4096) _ tree in
    let rest = right (nodes_pass g 0 g.nodes) _ nodes in
    let each = nodes-pass g 0 g.nodes (left _ _ nodes) in
    let first = λ (side : Side). left (sets_pass (sets_of side g) && order_passes side 0 g.nodes (length (sets_of side g))) _ (both g one two side) in
    let second = λ (side : Side). right (sets_pass (sets_of side g) && order_passes side 0 g.nodes (length (sets_of side g))) _ (both g one two side) in
    record {
      has_root = below _ _ (left _ _ size);
      at_most = at_most _ _ (right (ltb 0 (length g.nodes)) _ size);
      each_node = λ n node h. (each n n node (omega arith) h).0;
      in_row = λ n node h. (each n n node (omega arith) h).1;
      one_tree = same _ _ (left _ _ rest);
      not_deep = depths-pass g.nodes (length g.nodes) (right (eqb (end_of g.nodes 0) (length g.nodes)) _ rest);
      each_set = λ side. sets-pass (sets_of side g) (left _ _ (first side));
      in_order = λ side. order-passes side 0 g.nodes (length (sets_of side g)) (right (sets_pass (sets_of side g)) _ (first side));
      own_files = λ side. distinct-passes _ (left _ _ (second side));
      each_scale = λ side. scale-passes (scale_of side g) (right (distinct_passes (map (λ (info : SetInfo). info.file) (sets_of side g))) _ (second side));
    }
