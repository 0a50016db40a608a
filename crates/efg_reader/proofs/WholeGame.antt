-- The nodes that are assembled and the sets keep the rules of a game: each node is made of what its line says, and has
-- as many kids as the line's list has actions.
use Rattle.std.proofs.Common.{◌≡◌, ℕ, zero, suc, ◌+◌, ◌-◌, ◌<◌, ◌≤◌, ◌^◌, nat_eq, true, List, [], ◌∷◌, Option, Some, option_map, ◌&&◌, nat_le, length, map, take, slice_get, refl, ap, sym, subst, ◌∙◌, arith}
use Rattle.std.specs.Prelude.{All}
use Rattle.std.specs.List.{IsDistinct}
use Rattle.std.proofs.lemmas.Bool.Decides.{nat_tests}
use Rattle.std.proofs.lemmas.Int.{ints}
use Rattle.std.proofs.lemmas.List.{length-map, length-take-le}
use Rattle.std.proofs.lemmas.List.Elements.{All-map, All-weaker, All-get_or}
use Rattle.std.proofs.lemmas.Option.{same_Some, slice_get_within, slice_get-map, get_or_from_slice_get}
use Rattle.corr_game.specs.declared.nodes.Node.{Node}
use Rattle.corr_game.specs.declared.nodes.SetInfo.{SetInfo}
use Rattle.corr_game.specs.declared.sides.Side.{Side}
use Rattle.corr_game.specs.declared.sides.Side.TheVariants.{One, Two}
use Rattle.corr_game.specs.Game.{GameView, IsGame, IsNode, IsSet, IsScale, AreBehind, sets_of, scale_of}
use Rattle.corr_game.specs.Node.{kids_of, set_at}
use Rattle.corr_game.specs.Sets.{AreInOrder, met_with}
use Rattle.efg_reader.specs.declared.events.Bare.{Bare}
use Rattle.efg_reader.specs.declared.events.Event.{Event}
use Rattle.efg_reader.specs.declared.events.Event.TheVariants.{Leaf, Chance, Choice}
use Rattle.efg_reader.specs.declared.first_lists.FirstList.{FirstList}
use Rattle.efg_reader.specs.declared.raw_game.RawNode.{RawNode}
use Rattle.efg_reader.specs.Above.{AreShallow}
use Rattle.efg_reader.specs.Assembly.{assembled, node_with, shape_with}
use Rattle.efg_reader.specs.Event.{is_fit, HasChances}
use Rattle.efg_reader.specs.Places.{awaited}
use Rattle.efg_reader.specs.RawGame.{RawGameView, bare_node, bare_nodes, bare_game, IsLimited, HasProbabilities, IsRawGame}
use Rattle.efg_reader.specs.Sets.{info_of, turn_of, childless, HasActions, AreSetsOf}
use Rattle.efg_reader.proofs.Depth.{not_deep}
use Rattle.efg_reader.proofs.Widths.{awaited-head, width, one_tree, in_row, behind, some_node, length-assembled}

-- the line of which a node is made
record MadeOf (bares : List Bare) (j : ℕ) (node : RawNode) : Type 0 where
  bare : Bare
  kids : List ℕ
  line : slice_get bares j ≡ Some bare
  is : node ≡ node_with bare kids
  count : length kids ≡ bare.kids

made_of : (at places : ℕ) (bares : List Bare) → awaited places bares ≡ Some 0 → (j : ℕ) (node : RawNode) → slice_get (assembled at bares).0 j ≡ Some node → MadeOf bares j node
unfolding assembled
made_of at places [] closed j node e = absurd (cc)
made_of at places (bare ∷ rest) closed zero node e =
    let head = awaited-head places bare rest 0 closed in
    let enough = width (at + 1) (places - 1 + bare.kids) rest head.1 in
    record {
      bare = bare;
      kids = take bare.kids (assembled (at + 1) rest).1;
      line = refl;
      is = sym (same_Some (node_with bare (take bare.kids (assembled (at + 1) rest).1)) node e);
      count = length-take-le bare.kids (assembled (at + 1) rest).1 (omega arith);
    }
made_of at places (bare ∷ rest) closed (suc j) node e =
    let head = awaited-head places bare rest 0 closed in
    let more = made_of (at + 1) (places - 1 + bare.kids) rest head.1 j node e in
    record { bare = more.bare; kids = more.kids; line = more.line; is = more.is; count = more.count }

-- the raw node of a node
record RawOf (nodes : List RawNode) (j : ℕ) (node : Node) : Type 0 where
  raw : RawNode
  found : slice_get nodes j ≡ Some raw
  is : bare_node raw.shape ≡ node

raw_of : (nodes : List RawNode) (j : ℕ) (node : Node) → slice_get (bare_nodes nodes) j ≡ Some node → RawOf nodes j node
raw_of [] j node e = absurd (cc)
raw_of (raw ∷ nodes) zero node e = record { raw = raw; found = refl; is = same_Some (bare_node raw.shape) node e }
raw_of (raw ∷ nodes) (suc j) node e = let more = raw_of nodes j node e in record { raw = more.raw; found = more.found; is = more.is }

own_set : (side : Side) (index : ℕ) → set_at side (childless (Choice side (record { 0 = index }))) ≡ Some index
own_set One index = refl
own_set Two index = refl

-- a choice node names a set that has as many actions as the node has kids
set_in_range : (sets : List SetInfo) (set count : ℕ) → HasActions sets set count → (set < length sets) × ((info : SetInfo) → slice_get sets set ≡ Some info → count ≡ info.actions)
set_in_range sets set count has =
    (slice_get_within sets set has.0 has.1, λ info e. has.2 ∙ ap (λ (i : SetInfo). i.actions) (same_Some has.0 info (sym has.1 ∙ e)))

fit_many : (kids : ℕ) → (nat_le 1 kids && nat_le kids 64) ≡ true → (1 ≤ kids) × (kids ≤ 64)
fit_many kids fit = (grind (arith, nat_tests), grind (arith, nat_tests))

is_node : (g : GameView) (n : ℕ) (event : Event) (count : ℕ) (kids : List ℕ) → is_fit event count ≡ true → length kids ≡ count
    → AreBehind (length g.nodes) n (kids_of (bare_node (shape_with event kids)))
    → ((side : Side) (set : ℕ) → set_at side (childless event) ≡ Some set → HasActions (sets_of side g) set count)
    → IsNode g n (bare_node (shape_with event kids))
is_node g n Leaf count kids fit many back sets = (omega (arith, ints), omega (arith, ints))
is_node g n (Chance probs) count kids fit many back sets =
    let some = fit_many count fit in
    (omega (arith, some.0), omega (arith, some.1), back)
is_node g n (Choice side set) count kids fit many back sets =
    let own = set_in_range (sets_of side g) set.0 count (sets side set.0 (own_set side set.0)) in
    (own.0, λ info e. many ∙ own.1 info e, back)

-- a draw has one probability a kid
has_probabilities : (event : Event) (count : ℕ) (kids : List ℕ) → HasChances event count → length kids ≡ count → HasProbabilities (shape_with event kids)
has_probabilities Leaf count kids chances many = tt
has_probabilities (Chance probs) count kids chances many = let own = chances probs refl in (own.0 ∙ sym many, own.1)
has_probabilities (Choice side set) count kids chances many = tt

same_set : (side : Side) (event : Event) (kids : List ℕ) → set_at side (bare_node (shape_with event kids)) ≡ set_at side (childless event)
same_set side Leaf kids = refl
same_set side (Chance probs) kids = refl
same_set side (Choice mover set) kids = refl

-- the sets of the assembled nodes are those of their lines
same_order : (side : Side) (met at : ℕ) (bares : List Bare) (count : ℕ) → AreInOrder side met (map (λ (turn : Event × ℕ). childless turn.0) (map turn_of bares)) count → AreInOrder side met (bare_nodes (assembled at bares).0) count
unfolding AreInOrder assembled
same_order side met at [] count order = order
same_order side met at (bare ∷ rest) count order =
    let same = same_set side bare.event (take bare.kids (assembled (at + 1) rest).1) in
    rw same (order.0, same_order side (met_with met (set_at side (childless bare.event))) (at + 1) rest count order.1)

-- a player's sets by number and actions
each_info : (side : Side) (turns : List (Event × ℕ)) (lists : List (ℕ × FirstList)) → AreSetsOf side turns lists → All IsSet (map info_of lists)
each_info side turns lists sets =
    All-map IsSet info_of lists (All-weaker (λ (entry : ℕ × FirstList). entry.0 < 2 ^ 31) (λ (entry : ℕ × FirstList). IsSet (info_of entry)) (λ entry few. (entry.1.some, entry.1.few, few)) lists sets.numbers)

files-map : (lists : List (ℕ × FirstList)) → map (λ (info : SetInfo). info.file) (map info_of lists) ≡ map (λ (entry : ℕ × FirstList). entry.0) lists
files-map [] = refl
files-map (entry ∷ lists) = ap (λ (xs : List ℕ). entry.0 ∷ xs) (files-map lists)

all_at : {A : Type 0} (P : A → Type 0) (xs : List A) (i : ℕ) (x : A) → All P xs → slice_get xs i ≡ Some x → P x
all_at P xs i x all e = subst P (get_or_from_slice_get xs i x x e) (All-get_or P xs i x (slice_get_within xs i x e) all)

-- the set that a line names
found_turn : (side : Side) (bares : List Bare) (lists : List (ℕ × FirstList)) → AreSetsOf side (map turn_of bares) lists → (n : ℕ) (bare : Bare) → slice_get bares n ≡ Some bare
    → (set : ℕ) → set_at side (childless bare.event) ≡ Some set → HasActions (map info_of lists) set bare.kids
found_turn side bares lists sets n bare e =
    all_at (λ (turn : Event × ℕ). (set : ℕ) → set_at side (childless turn.0) ≡ Some set → HasActions (map info_of lists) set turn.1) (map turn_of bares) n (turn_of bare) sets.actions
    (slice_get-map turn_of bares n ∙ ap (λ (found : Option Bare). option_map turn_of found) e)

module _ (bares : List Bare) (end : List ℕ) (one two : List (ℕ × FirstList)) (closed : awaited 1 bares ≡ Some 0) (few : length bares ≤ 4096) (shallow : AreShallow [] bares end)
    (sets_one : AreSetsOf One (map turn_of bares) one) (sets_two : AreSetsOf Two (map turn_of bares) two)
    (files_one : IsDistinct nat_eq (map (λ (entry : ℕ × FirstList). entry.0) one)) (files_two : IsDistinct nat_eq (map (λ (entry : ℕ × FirstList). entry.0) two)) where
  abbrev game : RawGameView
  game = record { nodes = (assembled 0 bares).0; one = map info_of one; two = map info_of two }

  abbrev whole : GameView
  whole = bare_game game

  made : (n : ℕ) (node : RawNode) → slice_get (assembled 0 bares).0 n ≡ Some node → MadeOf bares n node
  made n node e = made_of 0 1 bares closed n node e

  actions : (side : Side) (n : ℕ) (bare : Bare) → slice_get bares n ≡ Some bare → (set : ℕ) → set_at side (childless bare.event) ≡ Some set → HasActions (sets_of side whole) set bare.kids
  actions One n bare e = found_turn One bares one sets_one n bare e
  actions Two n bare e = found_turn Two bares two sets_two n bare e

  count : length (bare_nodes (assembled 0 bares).0) ≡ length bares
  count = length-assembled 0 bares

  each_node : (n : ℕ) (node : Node) → slice_get (bare_nodes (assembled 0 bares).0) n ≡ Some node → IsNode whole n node
  each_node n node e =
      let raw = raw_of (assembled 0 bares).0 n node e in
      let line = made n raw.raw raw.found in
      let own : bare_node (shape_with line.bare.event line.kids) ≡ node = ap (λ (r : RawNode). bare_node r.shape) (sym line.is) ∙ raw.is in
      let back = subst (λ (k : ℕ). AreBehind k n (kids_of node)) (sym count) (behind bares n node e) in
      subst (IsNode whole n) own
      (is_node whole n line.bare.event line.bare.kids line.kids line.bare.fits line.count (subst (λ (x : Node). AreBehind (length whole.nodes) n (kids_of x)) (sym own) back)
      (λ side set names. actions side n line.bare line.line set names))

  each_set : (side : Side) → All IsSet (sets_of side whole)
  each_set One = each_info One (map turn_of bares) one sets_one
  each_set Two = each_info Two (map turn_of bares) two sets_two

  in_order : (side : Side) → AreInOrder side 0 (bare_nodes (assembled 0 bares).0) (length (sets_of side whole))
  in_order One = subst (AreInOrder One 0 (bare_nodes (assembled 0 bares).0)) (sym (length-map one info_of)) (same_order One 0 0 bares (length one) sets_one.order)
  in_order Two = subst (AreInOrder Two 0 (bare_nodes (assembled 0 bares).0)) (sym (length-map two info_of)) (same_order Two 0 0 bares (length two) sets_two.order)

  own_files : (side : Side) → IsDistinct nat_eq (map (λ (info : SetInfo). info.file) (sets_of side whole))
  own_files One = subst (IsDistinct nat_eq) (sym (files-map one)) files_one
  own_files Two = subst (IsDistinct nat_eq) (sym (files-map two)) files_two

  each_scale : (side : Side) → IsScale (scale_of side whole)
  each_scale One = (omega (arith, ints), omega (arith, ints))
  each_scale Two = (omega (arith, ints), omega (arith, ints))

  tree : IsGame whole
  tree = record {
    has_root = omega (arith, count, some_node bares closed);
    at_most = omega (arith, count);
    each_node = each_node;
    in_row = in_row bares;
    one_tree = one_tree bares closed ∙ sym count;
    not_deep = λ n within. not_deep bares end shallow n (omega (arith, count));
    each_set = each_set;
    in_order = in_order;
    own_files = own_files;
    each_scale = each_scale;
  }

  probabilities : (n : ℕ) (node : RawNode) → slice_get (assembled 0 bares).0 n ≡ Some node → HasProbabilities node.shape
  probabilities n node e =
      let line = made n node e in
      subst (λ (r : RawNode). HasProbabilities r.shape) (sym line.is) (has_probabilities line.bare.event line.bare.kids line.kids line.bare.chances line.count)

  payoffs : (n : ℕ) (node : RawNode) → slice_get (assembled 0 bares).0 n ≡ Some node → IsLimited node.one × IsLimited node.two
  payoffs n node e =
      let line = made n node e in
      subst (λ (r : RawNode). IsLimited r.one × IsLimited r.two) (sym line.is) (line.bare.one_limited, line.bare.two_limited)

  -- the rules that the assembled nodes and the sets keep
  pub is_raw_game : IsRawGame game
  is_raw_game = record { tree = tree; probabilities = probabilities; payoffs = payoffs }
