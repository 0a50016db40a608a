-- Each incentive row has one coefficient in each column: terms are known by their conditions, places and triggers by the game's sets; and
-- each row is one of some trigger's.
use Rattle.std.proofs.Common.{◌≡◌, inl, inr, ℕ, zero, suc, ◌+◌, ◌*◌, ◌<◌, ◌≤◌, List, [], ◌∷◌, Option, Some, None, length, slice_get}
use Rattle.std.proofs.Common.{ℤ, ◌+ℤ◌, refl, sym, ap, ap₂, subst, ◌∙◌, arith}
use Rattle.std.specs.Prelude.{unwrap_or}
use Rattle.std.proofs.lemmas.Bool.{cases_lt}
use Rattle.corr_game.specs.declared.nodes.Node.{Node}
use Rattle.corr_game.specs.declared.nodes.Node.TheVariants.{Leaf, Chance, Choice}
use Rattle.corr_game.specs.declared.nodes.SetId.{SetId}
use Rattle.corr_game.specs.declared.nodes.SetInfo.{SetInfo}
use Rattle.corr_game.specs.declared.notions.Notion.{Notion}
use Rattle.corr_game.specs.declared.notions.Notion.TheVariants.{Efce, Efcce, Nfcce}
use Rattle.corr_game.specs.declared.sides.Side.{Side}
use Rattle.corr_game.specs.Game.{GameView, sets_of}
use Rattle.sequences.specs.declared.places.Place.{Place}
use Rattle.sequences.specs.Number.{Ends, IsOwn, SideView, last_of, side_of}
use Rattle.connected_pairs.specs.Connected.{PairsView}
use Rattle.lp_form.specs.Program.{LpView, coefficient}
use Rattle.incentive_rows.specs.declared.blocks.Columns.{Columns}
use Rattle.incentive_rows.specs.declared.places.SetPlace.{SetPlace}
use Rattle.incentive_rows.specs.declared.triggers.Trigger.{Trigger}
use Rattle.incentive_rows.specs.Coefficient.{AtNode, AtSet, IsAboveTerm, IsCoefficient, IsLeafTerm, IsSetTerm, IsSlackTerm}
use Rattle.incentive_rows.specs.Coefficient.{IsValueTerm, row_at_move}
use Rattle.incentive_rows.specs.Places.{ArePlaces}
use Rattle.incentive_rows.specs.Size.{CountsFor, HasCount, HasCountAt, HasTotal, row_each, value_each}
use Rattle.incentive_rows.specs.Standing.{HasRowsAt, HasRowsAtSets, HasRowsFor, HasRowsOf, IsTriggerAt, StandsBehind, at_start}
use Rattle.incentive_rows.specs.Sum.{IsSum}
use Rattle.incentive_rows.specs.Term.{AreTerms, Both, IsTerm}
use Rattle.incentive_rows.specs.Trigger.{TriggersAt}
use Rattle.incentive_rows.proofs.Counts.{count_one, counts_one, times_one}
use Rattle.incentive_rows.proofs.Sums.{sum_one, sum_room}

-- ---- terms

abbrev IsOne : (ℤ → Type 0) → Type 0
IsOne Term = (a b : ℤ) → Term a → Term b → a ≡ b

term_one : (P : Type 0) (value : ℤ) → IsOne (IsTerm P value)
term_one P value a b (inl x) (inl y) = x.1 ∙ sym y.1
term_one P value a b (inl x) (inr y) = absurd (y.0 x.0)
term_one P value a b (inr x) (inl y) = absurd (x.0 y.0)
term_one P value a b (inr x) (inr y) = x.1 ∙ sym y.1

both_one : (First Second : ℤ → Type 0) → IsOne First → IsOne Second → IsOne (Both First Second)
both_one First Second one two a b x y =
    x.4 ∙ ap₂ (λ (u v : ℤ). u +ℤ v) (one x.0 y.0 x.2 y.2) (two x.1 y.1 x.3 y.3) ∙ sym y.4

terms_one : (term : ℕ → ℤ → Type 0) → ((n : ℕ) → IsOne (term n)) → (count : ℕ) → IsOne (AreTerms term count)
terms_one term one zero a b x y = x ∙ sym y
terms_one term one (suc n) a b x y =
    x.4 ∙ ap₂ (λ (u v : ℤ). u +ℤ v) (terms_one term one n x.0 y.0 x.2 y.2) (one n x.1 y.1 x.3 y.3) ∙ sym y.4

own_one : (v : SideView) (set a b : ℕ) → IsOwn v set a → IsOwn v set b → a ≡ b
own_one v set a b x y =
    let places : x.0 ≡ y.0 = cc (x.1, y.1) in
    sym x.2 ∙ ap (λ (q : Place). q.own) places ∙ y.2

module _ (g : GameView) (p : PairsView) (trigger : Trigger) (sets : List (Option SetPlace)) (follow : ℕ) (columns : Columns) (r k : ℕ) where
  abbrev Above : ℕ → SetPlace → ℤ → Type 0
  Above own place v =
      IsAboveTerm columns (unwrap_or (row_at_move sets (last_of (side_of trigger.side p.seqs) own)) follow) place r k v

  at_set_one : (set : ℕ) (info : SetInfo) (place : Option SetPlace) → IsOne (AtSet p trigger sets follow columns set info place r k)
  at_set_one set info None a b x y = x ∙ sym y
  at_set_one set info (Some place) a b x y =
      let owns = own_one (side_of trigger.side p.seqs) set x.0 y.0 x.1 y.1 in
      let P : ℕ → Type 0 = λ own. Both (IsValueTerm columns info.actions place r k) (Above own place) a in
      both_one (IsValueTerm columns info.actions place r k) (Above y.0 place)
      (both_one _ _ (term_one _ _) (term_one _ _)) (both_one _ _ (term_one _ _) (term_one _ _)) a b (subst P owns x.2) y.2

  set_one : (set : ℕ) → IsOne (IsSetTerm g p trigger sets follow columns r k set)
  set_one set a b x y =
      let infos : x.0 ≡ y.0 = cc (x.2, y.2) in
      let places : x.1 ≡ y.1 = cc (x.3, y.3) in
      let P : SetInfo → Type 0 = λ info. AtSet p trigger sets follow columns set info x.1 r k a in
      let Q : Option SetPlace → Type 0 = λ place. AtSet p trigger sets follow columns set y.0 place r k a in
      at_set_one set y.0 y.1 a b (subst Q places (subst P infos x.4)) y.4

  node_one : (n : ℕ) (node : Node) → IsOne (AtNode p trigger sets follow n node r k)
  node_one n (Leaf pay) a b x y = both_one _ _ (term_one _ _) (term_one _ _) a b x y
  node_one n (Chance kids) a b x y = x ∙ sym y
  node_one n (Choice side set kids) a b x y = x ∙ sym y

  leaf_one : (n : ℕ) → IsOne (IsLeafTerm g p trigger sets follow r k n)
  leaf_one n a b x y =
      let nodes : x.0 ≡ y.0 = cc (x.1, y.1) in
      let P : Node → Type 0 = λ node. AtNode p trigger sets follow n node r k a in
      node_one n y.0 a b (subst P nodes x.2) y.2

  coefficient_one : IsOne (IsCoefficient g p trigger sets follow columns r k)
  coefficient_one a b x y =
      both_one
      (Both (AreTerms (IsSetTerm g p trigger sets follow columns r k) (length (sets_of trigger.side g)))
      (IsSlackTerm columns (follow + 1) r k))
      (AreTerms (IsLeafTerm g p trigger sets follow r k) (length g.nodes))
      (both_one _ _ (terms_one _ set_one (length (sets_of trigger.side g))) (term_one _ _))
      (terms_one _ leaf_one (length g.nodes)) a b x y

-- ---- places and triggers

same_lists : {X : Type 0} (xs ys : List X) → length xs ≡ length ys
    → ((k : ℕ) (x y : X) → slice_get xs k ≡ Some x → slice_get ys k ≡ Some y → x ≡ y) → xs ≡ ys
same_lists [] [] count each = refl
same_lists [] (y ∷ ys) count each = absurd (omega arith)
same_lists (x ∷ xs) [] count each = absurd (omega arith)
same_lists {X} (x ∷ xs) (y ∷ ys) count each =
    ap₂ (λ (z : X) (zs : List X). z ∷ zs) (each 0 x y refl refl) (same_lists xs ys (omega arith) (λ k u v e f. each (suc k) u v e f))

same_place : (a b : SetPlace) → a.value ≡ b.value → a.row ≡ b.row → a ≡ b
same_place a b e f =
    let make : ℕ → ℕ → SetPlace = λ v r. record { value = v; row = r } in
    ap₂ make e f

module _ (g : GameView) (p : PairsView) (side : Side) (top : Option SetId) (count : ℕ) where
  entry_one : (xs ys : List (Option SetPlace)) (v r w s : ℕ) → ArePlaces g p side top count xs v r → ArePlaces g p side top count ys w s
      → (k : ℕ) (x y : Option SetPlace) → slice_get xs k ≡ Some x → slice_get ys k ≡ Some y → x ≡ y
  entry_one xs ys v r w s a b k None None e f = refl
  entry_one xs ys v r w s a b k None (Some y) e f = absurd (a.others k e (b.each k y f).0)
  entry_one xs ys v r w s a b k (Some x) None e f = absurd (b.others k f (a.each k x e).0)
  entry_one xs ys v r w s a b k (Some x) (Some y) e f =
      let one = a.each k x e in
      let two = b.each k y f in
      ap (λ (q : SetPlace). Some q) (same_place x y
      (sum_one (CountsFor value_each g p side top) (counts_one value_each g p side top) k x.value y.value one.1 two.1)
      (sum_one (CountsFor row_each g p side top) (counts_one row_each g p side top) k x.row y.row one.2 two.2))

  places_one : (xs ys : List (Option SetPlace)) (v r w s : ℕ) → ArePlaces g p side top count xs v r → ArePlaces g p side top count ys w s
      → (xs ≡ ys) × (r ≡ s)
  places_one xs ys v r w s a b = (
    same_lists xs ys (a.per_set ∙ sym b.per_set) (entry_one xs ys v r w s a b),
    sum_one (CountsFor row_each g p side top) (counts_one row_each g p side top) count r s a.all_rows b.all_rows,
  )

block_one : (g : GameView) (p : PairsView) (trigger : Trigger) (first values floor cols : ℕ) (a b : LpView)
    → HasRowsOf g p trigger first values floor cols a → HasRowsOf g p trigger first values floor cols b
    → (count : ℕ) → HasCount row_each g p trigger.side trigger.set count → (r k : ℕ) → r ≤ count
    → coefficient a (first + r) k ≡ coefficient b (first + r) k
block_one g p trigger first values floor cols a b x y count counted r k low =
    let columns : Columns = record { values = length p.pairs + values; floor = floor; slacks = floor + 1 + first; all = cols } in
    let same = places_one g p trigger.side trigger.set (length (sets_of trigger.side g)) x.sets y.sets x.value_count x.row_count
    y.value_count y.row_count x.placed y.placed in
    let rows = count_one row_each g p trigger.side trigger.set x.row_count count x.placed.all_rows counted in
    let P : List (Option SetPlace) → Type 0 =
    λ sets. IsCoefficient g p trigger sets x.row_count columns r k (coefficient a (first + r) k) in
    let Q : ℕ → Type 0 = λ follow. IsCoefficient g p trigger y.sets follow columns r k (coefficient a (first + r) k) in
    let here = subst Q same.1 (subst P same.0 (x.terms r k (omega arith))) in
    coefficient_one g p trigger y.sets y.row_count columns r k _ _ here (y.terms r k (omega (arith, same.1)))

same_trigger : (s t : Trigger) → s.side ≡ t.side → s.set ≡ t.set → s.action ≡ t.action → s.seq ≡ t.seq → s ≡ t
same_trigger s t e f h i =
    let make : Side → Option SetId → Option ℕ → ℕ → Trigger =
    λ side set action seq. record { side = side; set = set; action = action; seq = seq } in
    ap₂ (λ (side : Side) (set : Option SetId). make side set s.action s.seq) e f
    ∙ ap₂ (λ (action : Option ℕ) (seq : ℕ). make t.side t.set action seq) h i

ends_one : (places : List Place) (move : SetId × ℕ) (a b : ℕ) → Ends places move a → Ends places move b → a ≡ b
ends_one places move a b x y =
    let same : x.0 ≡ y.0 = cc (x.1, y.1) in
    let firsts = ap (λ (q : Place). q.first) same in
    omega (arith, x.3, y.3, firsts)

trigger_one : (notion : Notion) (p : PairsView) (side : Side) (set k : ℕ) (s t : Trigger) → IsTriggerAt notion p side set k s
    → IsTriggerAt notion p side set k t → s ≡ t
trigger_one Efce p side set k s t x y =
    let at : SetId = record { 0 = set } in
    same_trigger s t (x.0 ∙ sym y.0) (x.1 ∙ sym y.1) (x.2 ∙ sym y.2) (ends_one (side_of side p.seqs).places (at, k) s.seq t.seq x.3 y.3)
trigger_one Efcce p side set k s t x y =
    same_trigger s t (x.0 ∙ sym y.0) (x.1 ∙ sym y.1) (x.2 ∙ sym y.2) (own_one (side_of side p.seqs) set s.seq t.seq x.3 y.3)
trigger_one Nfcce p side set k s t x y = absurd x

trigger_side : (notion : Notion) (p : PairsView) (side : Side) (set k : ℕ) (t : Trigger) → IsTriggerAt notion p side set k t
    → (t.side ≡ side) × (t.set ≡ Some record { 0 = set })
trigger_side Efce p side set k t x = (x.0, x.1)
trigger_side Efcce p side set k t x = (x.0, x.1)
trigger_side Nfcce p side set k t x = absurd x

block_at_one : (notion : Notion) (g : GameView) (p : PairsView) (side : Side) (set k first values floor cols : ℕ) (a b : LpView)
    → HasRowsAt notion g p side set k first values floor cols a → HasRowsAt notion g p side set k first values floor cols b
    → (count : ℕ) → HasCount row_each g p side (Some record { 0 = set }) count → (r col : ℕ) → r ≤ count
    → coefficient a (first + r) col ≡ coefficient b (first + r) col
block_at_one notion g p side set k first values floor cols a b x y count counted r col low =
    let same = trigger_one notion p side set k x.0 y.0 x.1 y.1 in
    let P : Trigger → Type 0 = λ t. HasRowsOf g p t first values floor cols a in
    let sides = trigger_side notion p side set k y.0 y.1 in
    let here : HasCount row_each g p y.0.side y.0.set count = rw (sides.0, sides.1) counted in
    block_one g p y.0 first values floor cols a b (subst P same x.2) y.2 count here r col low

-- ---- each row is one of some trigger's

pub rest_of : (a m : ℕ) → a ≤ m → (d : ℕ) × (m ≡ a + d)
rest_of zero m h = (m, omega arith)
rest_of (suc a) zero h = absurd (omega arith)
rest_of (suc a) (suc m) h = (let inner = rest_of a m (omega arith) in (inner.0, omega (arith, inner.1)))

shared_out : (m size times : ℕ) → m < times * size → (k : ℕ) × (j : ℕ) × (k < times) × (j < size) × (m ≡ k * size + j)
shared_out m size zero h = absurd (omega arith)
shared_out m size (suc times) h = elim (cases_lt m (times * size)) [
  | inl low ↦ (let inner = shared_out m size times low in (inner.0, inner.1, omega (arith, inner.2), inner.3, inner.4))
  | inr high ↦ (let rest = rest_of (times * size) m high in (times, rest.0, omega arith, omega (arith, rest.1), rest.1))
]

-- the row is one of the k-th trigger's at a set, at its place j
record IsLocated (notion : Notion) (g : GameView) (p : PairsView) (side : Side) (n r : ℕ) : Type 0 where
  pub set : ℕ
  pub k : ℕ
  pub j : ℕ
  pub before : ℕ
  pub count : ℕ
  pub times : ℕ
  pub inside : set < n
  pub sum : IsSum (HasCountAt row_each 1 notion g p side) set before
  pub counted : HasCount row_each g p side (Some record { 0 = set }) count
  pub triggers : TriggersAt notion g side set times
  pub which : k < times
  pub low : j ≤ count
  pub at : r ≡ before + k * (count + 1) + j

located : (notion : Notion) (g : GameView) (p : PairsView) (side : Side) (n total r : ℕ)
    → IsSum (HasCountAt row_each 1 notion g p side) n total → r < total → IsLocated notion g p side n r
located notion g p side zero total r s low = absurd (omega (arith, s))
located notion g p side (suc n) total r s low = elim (cases_lt r s.0) [
  | inl below ↦
      let inner = located notion g p side n s.0 r s.2 below in
      record {
        set = inner.set;
        k = inner.k;
        j = inner.j;
        before = inner.before;
        count = inner.count;
        times = inner.times;
        inside = omega (arith, inner.inside);
        sum = inner.sum;
        counted = inner.counted;
        triggers = inner.triggers;
        which = inner.which;
        low = inner.low;
        at = inner.at;
      }
  | inr behind ↦
      let rest = rest_of s.0 r behind in
      let here = s.3 in
      let parts = shared_out rest.0 (here.1 + 1) here.0 (omega (arith, rest.1, s.4, here.4)) in
      record {
        set = n;
        k = parts.0;
        j = parts.1;
        before = s.0;
        count = here.1;
        times = here.0;
        inside = omega arith;
        sum = s.2;
        counted = here.3;
        triggers = here.2;
        which = parts.2;
        low = omega (arith, parts.3);
        at = omega (arith, rest.1, parts.4);
      }
]

at_sets_one : (notion : Notion) (g : GameView) (p : PairsView) (side : Side) (rows values floor cols all_rows all_values : ℕ) (a b : LpView)
    → HasRowsAtSets notion g p side (length (sets_of side g)) rows values floor cols a
    → HasRowsAtSets notion g p side (length (sets_of side g)) rows values floor cols b
    → IsSum (HasCountAt row_each 1 notion g p side) (length (sets_of side g)) all_rows
    → IsSum (HasCountAt value_each 0 notion g p side) (length (sets_of side g)) all_values
    → (r col : ℕ) → r < all_rows → coefficient a (rows + r) col ≡ coefficient b (rows + r) col
at_sets_one notion g p side rows values floor cols all_rows all_values a b x y sum value_sum r col low =
    let at = located notion g p side (length (sets_of side g)) all_rows r sum low in
    let part = sum_room (HasCountAt value_each 0 notion g p side) (length (sets_of side g)) all_values at.set value_sum at.inside in
    let here = part.3 in
    let times = times_one notion g side at.set here.0 at.times here.2 at.triggers in
    let first = at.before + at.k * (at.count + 1) in
    let value = part.0 + at.k * (here.1 + 0) in
    let stands : StandsBehind row_each 1 notion g p side at.set at.k first =
    (at.before, at.count, at.times, at.sum, at.counted, at.triggers, at.which, refl) in
    let worth : StandsBehind value_each 0 notion g p side at.set at.k value =
    (part.0, here.1, here.0, part.2, here.3, here.2, omega (arith, times, at.which), refl) in
    let block = block_at_one notion g p side at.set at.k (rows + first) (values + value) floor cols a b
    (x at.set at.k first value at.inside stands worth) (y at.set at.k first value at.inside stands worth)
    at.count at.counted at.j col at.low in
    let number : rows + r ≡ rows + first + at.j = omega (arith, at.at) in
    ap (λ (n : ℕ). coefficient a n col) number ∙ block ∙ sym (ap (λ (n : ℕ). coefficient b n col) number)

pub for_one : (notion : Notion) (g : GameView) (p : PairsView) (side : Side) (rows values floor cols all_rows all_values : ℕ) (a b : LpView)
    → HasRowsFor notion g p side rows values floor cols a → HasRowsFor notion g p side rows values floor cols b
    → HasTotal row_each 1 notion g p side all_rows → HasTotal value_each 0 notion g p side all_values
    → (r col : ℕ) → r < all_rows → coefficient a (rows + r) col ≡ coefficient b (rows + r) col
for_one Efce g p side rows values floor cols all_rows all_values a b x y total worth r col low =
    at_sets_one Efce g p side rows values floor cols all_rows all_values a b x y total worth r col low
for_one Efcce g p side rows values floor cols all_rows all_values a b x y total worth r col low =
    at_sets_one Efcce g p side rows values floor cols all_rows all_values a b x y total worth r col low
for_one Nfcce g p side rows values floor cols all_rows all_values a b x y total worth r col low =
    block_one g p (at_start side) rows values floor cols a b x y total.0 total.1 r col (omega (arith, total.2))
