-- The lemmas over two players, for player 1 and player 2 of a game.
use Rattle.std.proofs.Common.{◌≡◌, ℕ, Bool, ℤ, pos, ◌≤ℤ◌, List, Option, Some, None, set, slice_index_or, sym, ap, ◌∙◌, inl, inr, arith}
use Rattle.std.proofs.lemmas.Bool.{cases_eq}
use Rattle.std.proofs.lemmas.Int.{ints}
use Rattle.std.proofs.lemmas.Option.{slice_get_within}
use Rattle.corr_game.specs.declared.nodes.SetId.{SetId}
use Rattle.corr_game.specs.declared.sides.Side.{Side}
use Rattle.corr_game.specs.declared.sides.Side.TheVariants.{One, Two}
use Rattle.corr_game.specs.Game.{GameView}
use Rattle.sequences.specs.Number.{SideView, Ends, nothing, last_of, side_of}
use Rattle.sequences.proofs.Adding.{within}
use Rattle.connected_pairs.specs.Connected.{PairsView, IsClosedBack, IsPairs, IsPairsOf, IsTouched, are_connected, index_of, other, touches}
use Rattle.triangle_test.specs.declared.triangles.Quad.{Quad}
use Rattle.plan_decompose.specs.declared.opens.Open.{Open}
use Rattle.plan_decompose.specs.declared.walks.Walk.{Walk}
use Rattle.plan_decompose.specs.Fair.{IsCentre, IsFair, IsHalf, IsLongest, IsNext, IsNotOne, IsOnlyJoined, Waits}
use Rattle.plan_decompose.specs.OpenSets.{AreMoved, AreOpened}
use Rattle.plan_decompose.specs.Solution.{ArePositive, IsSolution, MeetsRows, value_at, value_of}
use Rattle.plan_decompose.specs.Walk.{IsFresh, IsOpenOf, IsWalk, part_of}
use Rattle.plan_decompose.proofs.Fairness.{IsSetting, Near}
use Rattle.plan_decompose.proofs.Stars.{HasNoPath, IsChoice, centre_first, centre_only, half_after, other_half_after, positive_after, some_move}

touched_two : (p : PairsView) (set : ℕ) (last : Option (SetId × ℕ)) → Near (λ k. are_connected p set k) last → IsTouched p Two set last
touched_two p set None h = tt
touched_two p set (Some move) h = h

touched_one : (p : PairsView) (set : ℕ) (last : Option (SetId × ℕ)) → Near (λ i. are_connected p i set) last → IsTouched p One set last
touched_one p set None h = tt
touched_one p set (Some move) h = h

pub near_two : (p : PairsView) (set : ℕ) (last : Option (SetId × ℕ)) → IsTouched p Two set last → Near (λ k. are_connected p set k) last
near_two p set None h = tt
near_two p set (Some move) h = h

pub near_one : (p : PairsView) (set : ℕ) (last : Option (SetId × ℕ)) → IsTouched p One set last → Near (λ i. are_connected p i set) last
near_one p set None h = tt
near_one p set (Some move) h = h

value_not_negative : (values : List ℤ) → ((k : ℕ) → pos 0 ≤ℤ slice_index_or values k (pos 0)) → (k : Option ℕ) → pos 0 ≤ℤ value_at values k
value_not_negative values h None = omega (arith, ints)
value_not_negative values h (Some k) = h k

pub setting_one : {g : GameView} (p : PairsView) (values : List ℤ) → IsPairsOf g p → IsPairs p → MeetsRows p values → IsSetting p.seqs.one p.seqs.two (λ i k. are_connected p i k) (λ x y. value_of p values One x y)
unfolding IsClosedBack
setting_one p values of rules s = record {
  side_v = rules.sides One;
  side_w = rules.sides Two;
  rows_v = record { row = λ set place y at low near. s.row One set place y at low (touched_two p set (last_of p.seqs.two y) near) };
  rows_w = record { row = λ set place x at low near. s.row Two set place x at low (touched_one p set (last_of p.seqs.one x) near) };
  not_negative = λ x y. value_not_negative values s.not_negative (index_of p x y);
  closed_v = record { back = λ set k place move low j at e. of.closed One set k place move low j at e };
  closed_w = record { back = λ set k place move low j at e. of.closed Two set k place move low j at e };
}

pub setting_two : {g : GameView} (p : PairsView) (values : List ℤ) → IsPairsOf g p → IsPairs p → MeetsRows p values → IsSetting p.seqs.two p.seqs.one (λ k i. are_connected p i k) (λ y x. value_of p values Two y x)
unfolding IsClosedBack
setting_two p values of rules s = record {
  side_v = rules.sides Two;
  side_w = rules.sides One;
  rows_v = record { row = λ set place x at low near. s.row Two set place x at low (touched_one p set (last_of p.seqs.one x) near) };
  rows_w = record { row = λ set place y at low near. s.row One set place y at low (touched_two p set (last_of p.seqs.two y) near) };
  not_negative = λ y x. value_not_negative values s.not_negative (index_of p x y);
  closed_v = record { back = λ set k place move low j at e. of.closed Two set k place move low j at e };
  closed_w = record { back = λ set k place move low j at e. of.closed One set k place move low j at e };
}

-- the two plans play the same pairs from either side
positive_from_two : (p : PairsView) (values : List ℤ) (one two : List (Option ℕ)) → ArePositive p.seqs.one p.seqs.two (λ i k. are_connected p i k) (λ x y. value_of p values One x y) one two
    → ArePositive p.seqs.two p.seqs.one (λ k i. are_connected p i k) (λ y x. value_of p values Two y x) two one
positive_from_two p values one two h y x py px relevant = h x y px py (λ a b e f. relevant b a f e)

positive_from_one : (p : PairsView) (values : List ℤ) (one two : List (Option ℕ)) → ArePositive p.seqs.two p.seqs.one (λ k i. are_connected p i k) (λ y x. value_of p values Two y x) two one
    → ArePositive p.seqs.one p.seqs.two (λ i k. are_connected p i k) (λ x y. value_of p values One x y) one two
positive_from_one p values one two h x y px py relevant = h y x py px (λ b a f e. relevant a b e f)

no_path_one : (p : PairsView) {values : List ℤ} → IsSolution p values → HasNoPath p.seqs.one p.seqs.two (λ i k. are_connected p i k)
no_path_one p s i j k l own_one own_two oi oj ok ol ik jk jl = elim (cases_eq i j) [
  | inl same ↦ inl same
  | inr apart ↦ elim (cases_eq k l) [
    | inl same ↦ inr same
    | inr other_apart ↦
        let quad : Quad = record { one_a = record { 0 = j }; one_b = record { 0 = i }; two_a = record { 0 = l }; two_b = record { 0 = k } } in
        absurd (s.no_triangle quad (record {
          one = (λ e. apart (sym e), (own_one, oj, oi));
          two = (λ e. other_apart (sym e), (own_two, ol, ok));
          first = jl;
          second = ik;
          across = jk;
        }))
  ]
]

no_path_two : (p : PairsView) {values : List ℤ} → IsSolution p values → HasNoPath p.seqs.two p.seqs.one (λ k i. are_connected p i k)
no_path_two p s i j k l own_two own_one oi oj ok ol ik jk jl = elim (no_path_one p s l k j i own_one own_two ol ok oj oi jl jk ik) [
  | inl same ↦ inr (sym same)
  | inr same ↦ inl (sym same)
]

pub fair_after_one : (g : GameView) (p : PairsView) (values : List ℤ) → IsPairsOf g p → IsPairs p → IsSolution p values → (old new : Walk) (at : SetId) (beside action seq near : ℕ) → IsWalk g p old → IsFair p values old
    → Waits old.one.beside.items at.0 beside → Ends p.seqs.one.places (at, action) seq → new.one.actions.items ≡ set old.one.actions.items at.0 (Some action)
    → AreOpened p.seqs.one seq beside (set old.one.beside.items at.0 None) new.one.beside.items → new.two.actions.items ≡ old.two.actions.items → AreMoved p One at.0 seq old.two.beside.items new.two.beside.items
    → IsLongest p Two at.0 beside near → pos 1 ≤ℤ value_of p values One seq near → IsCentre p old (record { side = One; set = at; beside = beside }) → IsFair p values new
fair_after_one g p values of rules s old new at beside action seq near walk fair waits ends chosen opened same moved longest gain centre =
    let before = walk.one.waiting at.0 beside ends.0 ends.1 waits in
    let v = p.seqs.one in
    let w = p.seqs.two in
    let join = λ (i k : ℕ). are_connected p i k in
    let value = λ (x y : ℕ). value_of p values One x y in
    let setting = setting_one p values of rules s.rows in
    let choice : IsChoice v w join value old.one.actions.items old.one.beside.items new.one.beside.items old.two.beside.items new.two.beside.items (at, action) beside seq near = record {
      per_set = walk.one.per_set ∙ sym (of.sides One).per_set;
      other_per_set = walk.two.per_set ∙ sym (of.sides Two).per_set;
      led = walk.one.led;
      none = before.1;
      ends = ends;
      own_played = before.0;
      is_open = waits;
      opened = opened;
      moved = moved.each;
      as_many = moved.as_many;
      prefix = longest.prefix;
      touched = near_two p at.0 (last_of w near) longest.touched;
      longest = λ y h n. longest.longest y h (touched_two p at.0 (last_of w y) n);
      gain = gain;
      centre = centre;
    } in
    record {
      one = rw same (half_after v w join value old.one.actions.items old.one.beside.items new.one.beside.items old.two.actions.items old.two.beside.items new.two.beside.items (at, action) beside seq near setting choice fair.one);
      two = rw chosen (other_half_after v w join value old.one.actions.items old.one.beside.items new.one.beside.items old.two.actions.items old.two.beside.items new.two.beside.items (at, action) beside seq near setting choice fair.two);
      positive = rw (chosen, same) (positive_after v w join value old.one.actions.items old.one.beside.items new.one.beside.items old.two.actions.items old.two.beside.items new.two.beside.items (at, action) beside seq near setting choice fair.one fair.positive);
    }

pub fair_after_two : (g : GameView) (p : PairsView) (values : List ℤ) → IsPairsOf g p → IsPairs p → IsSolution p values → (old new : Walk) (at : SetId) (beside action seq near : ℕ) → IsWalk g p old → IsFair p values old
    → Waits old.two.beside.items at.0 beside → Ends p.seqs.two.places (at, action) seq → new.two.actions.items ≡ set old.two.actions.items at.0 (Some action)
    → AreOpened p.seqs.two seq beside (set old.two.beside.items at.0 None) new.two.beside.items → new.one.actions.items ≡ old.one.actions.items → AreMoved p Two at.0 seq old.one.beside.items new.one.beside.items
    → IsLongest p One at.0 beside near → pos 1 ≤ℤ value_of p values Two seq near → IsCentre p old (record { side = Two; set = at; beside = beside }) → IsFair p values new
fair_after_two g p values of rules s old new at beside action seq near walk fair waits ends chosen opened same moved longest gain centre =
    let before = walk.two.waiting at.0 beside ends.0 ends.1 waits in
    let v = p.seqs.two in
    let w = p.seqs.one in
    let join = λ (k i : ℕ). are_connected p i k in
    let value = λ (x y : ℕ). value_of p values Two x y in
    let setting = setting_two p values of rules s.rows in
    let choice : IsChoice v w join value old.two.actions.items old.two.beside.items new.two.beside.items old.one.beside.items new.one.beside.items (at, action) beside seq near = record {
      per_set = walk.two.per_set ∙ sym (of.sides Two).per_set;
      other_per_set = walk.one.per_set ∙ sym (of.sides One).per_set;
      led = walk.two.led;
      none = before.1;
      ends = ends;
      own_played = before.0;
      is_open = waits;
      opened = opened;
      moved = moved.each;
      as_many = moved.as_many;
      prefix = longest.prefix;
      touched = near_one p at.0 (last_of w near) longest.touched;
      longest = λ y h n. longest.longest y h (touched_one p at.0 (last_of w y) n);
      gain = gain;
      centre = centre;
    } in
    record {
      one = rw chosen (other_half_after v w join value old.two.actions.items old.two.beside.items new.two.beside.items old.one.actions.items old.one.beside.items new.one.beside.items (at, action) beside seq near setting choice fair.one);
      two = rw same (half_after v w join value old.two.actions.items old.two.beside.items new.two.beside.items old.one.actions.items old.one.beside.items new.one.beside.items (at, action) beside seq near setting choice fair.two);
      positive = positive_from_one p values new.one.actions.items new.two.actions.items (rw (chosen, same)
          (positive_after v w join value old.two.actions.items old.two.beside.items new.two.beside.items old.one.actions.items old.one.beside.items new.one.beside.items (at, action) beside seq near setting choice fair.two
          (positive_from_two p values old.one.actions.items old.two.actions.items fair.positive)));
    }

-- the open set that comes next is a centre
centre_two_first : (g : GameView) (p : PairsView) (values : List ℤ) (walk : Walk) → IsPairsOf g p → IsSolution p values → IsWalk g p walk → IsFair p values walk → (set : SetId) (beside : ℕ) → Waits walk.two.beside.items set.0 beside
    → IsNotOne (touches p Two set.0) walk.one.beside.items → IsCentre p walk (record { side = Two; set = set; beside = beside })
centre_two_first g p values walk of s w fair set beside o not_one =
    centre_first p.seqs.two p.seqs.one (λ k i. are_connected p i k) walk.two.actions.items walk.two.beside.items walk.one.actions.items walk.one.beside.items (no_path_two p s) fair.two fair.one
    (w.two.per_set ∙ sym (of.sides Two).per_set) (w.one.per_set ∙ sym (of.sides One).per_set) set.0 beside o not_one

centre_one_first : (g : GameView) (p : PairsView) (values : List ℤ) (walk : Walk) → IsPairsOf g p → IsSolution p values → IsWalk g p walk → IsFair p values walk → (set : SetId) (beside : ℕ) → Waits walk.one.beside.items set.0 beside
    → IsNotOne (touches p One set.0) walk.two.beside.items → IsCentre p walk (record { side = One; set = set; beside = beside })
centre_one_first g p values walk of s w fair set beside o not_one =
    centre_first p.seqs.one p.seqs.two (λ i k. are_connected p i k) walk.one.actions.items walk.one.beside.items walk.two.actions.items walk.two.beside.items (no_path_one p s) fair.one fair.two
    (w.one.per_set ∙ sym (of.sides One).per_set) (w.two.per_set ∙ sym (of.sides Two).per_set) set.0 beside o not_one

centre_two_only : (g : GameView) (p : PairsView) (values : List ℤ) (walk : Walk) → IsPairsOf g p → IsSolution p values → IsWalk g p walk → IsFair p values walk → (first set : SetId) (t beside : ℕ) → Waits walk.one.beside.items first.0 t → Waits walk.two.beside.items set.0 beside
    → IsOnlyJoined (touches p One first.0) walk.two.beside.items set.0 → IsCentre p walk (record { side = Two; set = set; beside = beside })
centre_two_only g p values walk of s w fair first set t beside f o only =
    centre_only p.seqs.one p.seqs.two (λ i k. are_connected p i k) walk.one.actions.items walk.one.beside.items walk.two.actions.items walk.two.beside.items (no_path_one p s) fair.one fair.two
    (w.one.per_set ∙ sym (of.sides One).per_set) (w.two.per_set ∙ sym (of.sides Two).per_set) first.0 t set.0 beside f o only

centre_one_only : (g : GameView) (p : PairsView) (values : List ℤ) (walk : Walk) → IsPairsOf g p → IsSolution p values → IsWalk g p walk → IsFair p values walk → (first set : SetId) (t beside : ℕ) → Waits walk.two.beside.items first.0 t → Waits walk.one.beside.items set.0 beside
    → IsOnlyJoined (touches p Two first.0) walk.one.beside.items set.0 → IsCentre p walk (record { side = One; set = set; beside = beside })
centre_one_only g p values walk of s w fair first set t beside f o only =
    centre_only p.seqs.two p.seqs.one (λ k i. are_connected p i k) walk.two.actions.items walk.two.beside.items walk.one.actions.items walk.one.beside.items (no_path_two p s) fair.two fair.one
    (w.two.per_set ∙ sym (of.sides Two).per_set) (w.one.per_set ∙ sym (of.sides One).per_set) first.0 t set.0 beside f o only

first_centre : (g : GameView) (p : PairsView) (values : List ℤ) (walk : Walk) → IsPairsOf g p → IsSolution p values → IsWalk g p walk → IsFair p values walk → (side : Side) (set : SetId) (beside : ℕ)
    → IsOpenOf walk (record { side = side; set = set; beside = beside }) → IsNotOne (touches p side set.0) (part_of (other side) walk).beside.items → IsCentre p walk (record { side = side; set = set; beside = beside })
first_centre g p values walk of s w fair One set beside o not_one = centre_one_first g p values walk of s w fair set beside o not_one
first_centre g p values walk of s w fair Two set beside o not_one = centre_two_first g p values walk of s w fair set beside o not_one

only_centre : (g : GameView) (p : PairsView) (values : List ℤ) (walk : Walk) → IsPairsOf g p → IsSolution p values → IsWalk g p walk → IsFair p values walk → (side : Side) (first set : SetId) (t beside : ℕ)
    → IsOpenOf walk (record { side = side; set = first; beside = t }) → IsOpenOf walk (record { side = other side; set = set; beside = beside })
    → IsOnlyJoined (touches p side first.0) (part_of (other side) walk).beside.items set.0 → IsCentre p walk (record { side = other side; set = set; beside = beside })
only_centre g p values walk of s w fair One first set t beside f o only = centre_two_only g p values walk of s w fair first set t beside f o only
only_centre g p values walk of s w fair Two first set t beside f o only = centre_one_only g p values walk of s w fair first set t beside f o only

pub next_centre : (g : GameView) (p : PairsView) (values : List ℤ) (walk : Walk) → IsPairsOf g p → IsSolution p values → IsWalk g p walk → IsFair p values walk → (at : Open) → IsOpenOf walk at → IsNext p walk at → IsCentre p walk at
next_centre g p values walk of s w fair at o (first, (f, inl here)) =
    rw here.0 (first_centre g p values walk of s w fair first.side first.set first.beside f here.1)
next_centre g p values walk of s w fair at o (first, (f, inr near)) =
    let there : IsOpenOf walk (record { side = other first.side; set = at.set; beside = at.beside }) = rw near.0 at o in
    let centre = only_centre g p values walk of s w fair first.side first.set at.set first.beside at.beside f there near.1 in
    rw near.0 centre

pub goes_on : (g : GameView) (p : PairsView) (values : List ℤ) → IsPairsOf g p → IsPairs p → IsSolution p values → (walk : Walk) → IsWalk g p walk → IsFair p values walk → (side : Side) (set : SetId) (t near : ℕ)
    → Waits (part_of side walk).beside.items set.0 t → IsLongest p (other side) set.0 t near → ((action end : ℕ) → Ends (side_of side p.seqs).places (set, action) end → value_of p values side end near ≤ℤ pos 0) → ⊥
goes_on g p values of rules s walk w fair One set t near o longest stuck =
    let place = within p.seqs.one.places set.0 (omega (arith, slice_get_within walk.one.beside.items set.0 (Some t) o, w.one.per_set, (of.sides One).per_set)) in
    some_move p.seqs.one p.seqs.two (λ i k. are_connected p i k) (λ x y. value_of p values One x y) walk.one.actions.items walk.one.beside.items walk.two.actions.items walk.two.beside.items (setting_one p values of rules s.rows) fair.positive fair.one
    set t near place.0 place.1 (w.one.waiting set.0 t place.0 place.1 o).0 o longest.prefix (near_two p set.0 (last_of p.seqs.two near) longest.touched) stuck
goes_on g p values of rules s walk w fair Two set t near o longest stuck =
    let place = within p.seqs.two.places set.0 (omega (arith, slice_get_within walk.two.beside.items set.0 (Some t) o, w.two.per_set, (of.sides Two).per_set)) in
    some_move p.seqs.two p.seqs.one (λ k i. are_connected p i k) (λ y x. value_of p values Two y x) walk.two.actions.items walk.two.beside.items walk.one.actions.items walk.one.beside.items (setting_two p values of rules s.rows)
    (positive_from_two p values walk.one.actions.items walk.two.actions.items fair.positive) fair.two
    set t near place.0 place.1 (w.two.waiting set.0 t place.0 place.1 o).0 o longest.prefix (near_one p set.0 (last_of p.seqs.one near) longest.touched) stuck

fresh_half : (v w : SideView) (join : ℕ → ℕ → Bool) (plan_v open_v plan_w open_w : List (Option ℕ)) → IsFresh v plan_v open_v → IsFresh w plan_w open_w → IsHalf v w join open_v plan_w open_w
fresh_half v w join plan_v open_v plan_w open_w one two = record {
  played = λ i t o. rw (one.beside_empty i t o) nothing;
  alike = λ i t k u place o p joined at. two.at_first k u place p at ∙ sym (one.beside_empty i t o);
  lies = λ i t y move o py e joined. let first = two.only_empty y py in let none = ap (last_of w) (sym first) ∙ e in absurd (cc (none));
}

-- at the start
pub fresh_fair : (p : PairsView) (values : List ℤ) (walk : Walk) → IsSolution p values → IsFresh p.seqs.one walk.one.actions.items walk.one.beside.items → IsFresh p.seqs.two walk.two.actions.items walk.two.beside.items → IsFair p values walk
fresh_fair p values walk s one two = record {
  one = fresh_half p.seqs.one p.seqs.two (λ i k. are_connected p i k) walk.one.actions.items walk.one.beside.items walk.two.actions.items walk.two.beside.items one two;
  two = fresh_half p.seqs.two p.seqs.one (λ k i. are_connected p i k) walk.two.actions.items walk.two.beside.items walk.one.actions.items walk.one.beside.items two one;
  positive = λ x y px py relevant. rw (one.only_empty x px, two.only_empty y py) s.total;
}
