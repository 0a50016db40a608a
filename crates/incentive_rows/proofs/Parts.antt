-- Programs with no right sides and no payoffs, one behind the other, are one; and how the room for further rows shrinks.
use Rattle.std.proofs.Common.{◌≡◌, ℕ, ◌+◌, ◌*◌, ◌^◌, ◌<◌, ◌≤◌, zero, suc, List, [], ◌++◌, length, pos, replicate, get_or, length-append, refl, ap, ◌∙◌, inl, inr, arith}
use Rattle.std.specs.Prelude.{unsigned_abs}
use Rattle.std.proofs.Math.Nat.{mul-le-mul_right}
use Rattle.std.proofs.Math.Numerals.{add-one-le}
use Rattle.std.proofs.lemmas.Bool.{cases_lt}
use Rattle.std.proofs.lemmas.List.{get_or_append_left, get_or-append_right, get_or-append-add}
use Rattle.corr_game.specs.declared.notions.Notion.{Notion}
use Rattle.corr_game.specs.declared.notions.Notion.TheVariants.{Efce, Efcce, Nfcce}
use Rattle.corr_game.specs.declared.sides.Side.{Side}
use Rattle.corr_game.specs.declared.sides.Side.TheVariants.{One, Two}
use Rattle.lp_form.specs.declared.entries.Entry.{Entry}
use Rattle.lp_form.specs.Row.{value_at}
use Rattle.lp_form.specs.Program.{LpView, blank, entries_of, joined, right_of, payoff_of}
use Rattle.corr_game.specs.Game.{GameView}
use Rattle.connected_pairs.specs.Connected.{PairsView}
use Rattle.incentive_rows.specs.declared.rows.Part.{Part}
use Rattle.incentive_rows.specs.declared.triggers.Trigger.{Trigger}
use Rattle.incentive_rows.specs.Standing.{HasRowsFor, HasRowsOf}
use Rattle.incentive_rows.specs.Bounds.{IsWithin, Grows}
use Rattle.incentive_rows.specs.Part.{AddsTo, AreIncentives, Extends, HasRoom}

pub same_all : {X : Type 0} (n i : ℕ) (x : X) → get_or (replicate n x) i x ≡ x
same_all zero i x = refl
same_all (suc n) zero x = refl
same_all (suc n) (suc i) x = same_all n i x

-- what holds of all elements of two lists, and of the default, holds of all elements of both together
in_either : {X : Type 0} (P : X → Type 0) (xs ys : List X) (d : X) → ((i : ℕ) → P (get_or xs i d)) → ((i : ℕ) → P (get_or ys i d)) → (i : ℕ) → P (get_or (xs ++ ys) i d)
in_either P xs ys d f g i =
    elim (cases_lt i (length xs)) [
      | inl below ↦ rw (get_or_append_left xs ys d i below) (f i)
      | inr above ↦ rw (get_or-append_right xs ys (length xs) i d refl above) (g _)
    ]

pub blank_within : (rows cols : ℕ) → IsWithin 0 (blank rows cols)
blank_within rows cols r k =
    let none : List Entry = [] in
    omega (arith, ap (λ (entries : List Entry). unsigned_abs (value_at entries k)) (same_all rows r none))

unpaid_from : (side : Side) (k : ℕ) (a b : LpView) → b ≡ record a { rows = b.rows } → payoff_of side b k ≡ payoff_of side a k
unpaid_from One k a b e = ap (λ (x : LpView). payoff_of One x k) e
unpaid_from Two k a b e = ap (λ (x : LpView). payoff_of Two x k) e

unpaid_blank : (side : Side) (k rows cols : ℕ) → payoff_of side (blank rows cols) k ≡ pos 0
unpaid_blank One k rows cols = refl
unpaid_blank Two k rows cols = refl

unpaid_joined : (side : Side) (k : ℕ) (base more : LpView) → payoff_of side (joined base more) k ≡ payoff_of side base k
unpaid_joined One k base more = refl
unpaid_joined Two k base more = refl

pub blank_grown : (rows cols by : ℕ) (lp : LpView) → Grows by (blank rows cols) lp → by ≤ 2 ^ 42 → AreIncentives lp
blank_grown rows cols by lp g few = record {
  rights = λ r. ap (λ (x : LpView). right_of x r) g.rows_alone ∙ same_all rows r (pos 0);
  payoffs = λ side k. unpaid_from side k (blank rows cols) lp g.rows_alone ∙ unpaid_blank side k rows cols;
  within = λ r k. omega (arith, g.within 0 (blank_within rows cols) r k);
}

pub joined_made : (base more : LpView) → AreIncentives base → AreIncentives more → AreIncentives (joined base more)
joined_made base more b m = record {
  rights = in_either (λ right. right ≡ pos 0) base.rights more.rights (pos 0) b.rights m.rights;
  payoffs = λ side k. unpaid_joined side k base more ∙ b.payoffs side k;
  within = λ r k. in_either (λ entries. unsigned_abs (value_at entries k) ≤ 2 ^ 42) base.rows more.rows [] (λ i. b.within i k) (λ i. m.within i k) r;
}

pub extends_none : (lp : LpView) → Extends lp lp
extends_none lp = record {
  more = omega arith;
  same = λ r h. refl;
}

pub extends_on : {a b c : LpView} → Extends a b → Extends b c → Extends a c
extends_on {a} {b} {c} f g = record {
  more = omega (arith, f.more, g.more);
  same = λ r h. g.same r (omega (arith, f.more)) ∙ f.same r h;
}

pub joined_extends : (base more : LpView) → Extends base (joined base more)
joined_extends base more = record {
  more = omega (arith, length-append base.rows more.rows);
  same = λ r h. get_or_append_left base.rows more.rows [] r h;
}

-- a row of the second program stands behind those of the first
pub joined_row : (base more : LpView) (r : ℕ) → entries_of (joined base more) (length base.rows + r) ≡ entries_of more r
joined_row base more r = get_or-append-add base.rows more.rows r []

-- a trigger's rows stay where they are
pub rows_kept : {g : GameView} {p : PairsView} {trigger : Trigger} {first values floor cols : ℕ} {a b : LpView} → HasRowsOf g p trigger first values floor cols a → Extends a b → HasRowsOf g p trigger first values floor cols b
rows_kept {g} {p} {trigger} {first} {values} {floor} {cols} {a} {b} h e = record {
  sets = h.sets;
  value_count = h.value_count;
  row_count = h.row_count;
  placed = h.placed;
  inside = omega (arith, h.inside, e.more);
  terms = λ r k low. rw (e.same (first + r) (omega (arith, h.inside))) (h.terms r k low);
}

-- the same place said in another way
pub rows_as : {g : GameView} {p : PairsView} {trigger : Trigger} {first values floor cols f v l c : ℕ} {lp : LpView} → HasRowsOf g p trigger first values floor cols lp → f ≡ first → v ≡ values → l ≡ floor → c ≡ cols → HasRowsOf g p trigger f v l c lp
rows_as h e d i j = rw (e, d, i, j) h

pub for_as : (notion : Notion) (g : GameView) (p : PairsView) (side : Side) (rows values floor cols r v l c : ℕ) (lp : LpView) → HasRowsFor notion g p side rows values floor cols lp → r ≡ rows → v ≡ values → l ≡ floor → c ≡ cols → HasRowsFor notion g p side r v l c lp
for_as notion g p side rows values floor cols r v l c lp h e d i j = rw (e, d, i, j) h

pub for_kept : (notion : Notion) (g : GameView) (p : PairsView) (side : Side) (rows values floor cols : ℕ) (a b : LpView) → HasRowsFor notion g p side rows values floor cols a → Extends a b → HasRowsFor notion g p side rows values floor cols b
for_kept Efce g p side rows values floor cols a b h e = λ set k first value low r v.
    let old = h set k first value low r v in
    (old.0, old.1, rows_kept old.2 e)
for_kept Efcce g p side rows values floor cols a b h e = λ set k first value low r v.
    let old = h set k first value low r v in
    (old.0, old.1, rows_kept old.2 e)
for_kept Nfcce g p side rows values floor cols a b h e = rows_kept h e

pub adds_none : (part : Part) → AreIncentives part.lp → AddsTo part part 0 0
adds_none part made = record {
  more_rows = omega arith;
  more_values = omega arith;
  floor = refl;
  columns = refl;
  made = made;
  extends = extends_none part.lp;
}

pub adds_on : {a b c : Part} {k l m n : ℕ} (rows values : ℕ) → AddsTo a b k l → AddsTo b c m n → rows ≡ k + m → values ≡ l + n → AddsTo a c rows values
adds_on {a} {b} {c} rows values f g e h = record {
  more_rows = omega (arith, f.more_rows, g.more_rows);
  more_values = omega (arith, f.more_values, g.more_values);
  floor = g.floor ∙ f.floor;
  columns = g.columns ∙ f.columns;
  made = g.made;
  extends = extends_on f.extends g.extends;
}

-- what was added takes no room from what still fits beside it
pub room_left : {p : PairsView} {a b : Part} {rows values k l : ℕ} (m n : ℕ) → HasRoom p a rows values → AddsTo a b k l → k + m ≤ rows → l + n ≤ values → HasRoom p b m n
room_left {p} {a} {b} m n h f r v = record {
  for_values = omega (arith, h.for_values, f.more_values, f.floor);
  for_slacks = omega (arith, h.for_slacks, f.more_rows, f.floor, f.columns);
  few = omega (arith, h.few, f.columns);
}

pub adds_as : {a b : Part} {k l : ℕ} (rows values : ℕ) → AddsTo a b k l → rows ≡ k → values ≡ l → AddsTo a b rows values
adds_as {a} {b} rows values f e h = record {
  more_rows = omega (arith, f.more_rows);
  more_values = omega (arith, f.more_values);
  floor = f.floor;
  columns = f.columns;
  made = f.made;
  extends = f.extends;
}

-- one of so many blocks of one size
pub one_more_of : (k times size all : ℕ) → k < times → all ≡ times * size → k * size + size ≤ all
one_more_of k times size all low e = omega (arith, mul-le-mul_right size (add-one-le low))
