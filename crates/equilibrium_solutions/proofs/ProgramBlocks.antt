-- Each trigger of a notion's program has a block of rows there: where it stands, and that it lies within its player's rows and values.
use Rattle.std.proofs.Common.{◌≡◌, ℕ, ◌+◌, ◌*◌, ◌<◌, ◌≤◌, List, Option, Some, None, length, refl, sym, ap, ap₂, subst, ◌∙◌, arith}
use Rattle.std.proofs.lemmas.Nat.{row_fits}
use Rattle.std.proofs.lemmas.Option.{slice_get_within}
use Rattle.corr_game.specs.declared.nodes.SetId.{SetId}
use Rattle.corr_game.specs.declared.nodes.SetInfo.{SetInfo}
use Rattle.corr_game.specs.declared.notions.Notion.{Notion}
use Rattle.corr_game.specs.declared.notions.Notion.TheVariants.{Efce, Efcce, Nfcce}
use Rattle.corr_game.specs.declared.sides.Side.{Side}
use Rattle.corr_game.specs.Game.{GameView, sets_of}
use Rattle.sequences.specs.declared.places.Place.{Place}
use Rattle.sequences.specs.Number.{Ends, IsOwn, SideView, side_of}
use Rattle.connected_pairs.specs.Connected.{PairsView, IsPairsOf}
use Rattle.lp_form.specs.Program.{LpView}
use Rattle.incentive_rows.specs.declared.triggers.Trigger.{Trigger}
use Rattle.incentive_rows.specs.Size.{HasCount, HasCountAt, HasTotal, row_each, value_each}
use Rattle.incentive_rows.specs.Standing.{HasRowsAtSets, HasRowsFor, HasRowsOf, IsTriggerAt, StandsBehind}
use Rattle.incentive_rows.specs.Standing.{at_start as start_trigger}
use Rattle.incentive_rows.specs.Sum.{IsSum}
use Rattle.incentive_rows.specs.Trigger.{TriggersAt}
use Rattle.incentive_rows.proofs.Counts.{count_one, times_one}
use Rattle.incentive_rows.proofs.Sums.{sum_room}
use Rattle.equilibrium_solutions.specs.Values.{IsProgramTrigger, IsSomeTriggerAt}

-- a trigger's block in a program, its rows before one number and its values not behind another
pub record HasBlock (g : GameView) (p : PairsView) (trigger : Trigger) (floor cols : ℕ) (more : LpView) (rows_end values_end : ℕ)
    : Type 0 where
  pub first : ℕ
  pub values : ℕ
  pub rows : HasRowsOf g p trigger first values floor cols more
  pub rows_low : first + rows.row_count < rows_end
  pub values_low : values + rows.value_count ≤ values_end

-- ---- a trigger by its set and number

same_trigger : (s t : Trigger) → s.side ≡ t.side → s.set ≡ t.set → s.action ≡ t.action → s.seq ≡ t.seq → s ≡ t
same_trigger s t e f h i =
    let make : Side → Option SetId → Option ℕ → ℕ → Trigger =
    λ side set action seq. record { side = side; set = set; action = action; seq = seq } in
    ap₂ (λ (side : Side) (set : Option SetId). make side set s.action s.seq) e f
    ∙ ap₂ (λ (action : Option ℕ) (seq : ℕ). make t.side t.set action seq) h i

own_seq_one : (v : SideView) (set a b : ℕ) → IsOwn v set a → IsOwn v set b → a ≡ b
own_seq_one v set a b x y =
    let places : x.0 ≡ y.0 = cc (x.1, y.1) in
    sym x.2 ∙ ap (λ (q : Place). q.own) places ∙ y.2

end_one : (places : List Place) (move : SetId × ℕ) (a b : ℕ) → Ends places move a → Ends places move b → a ≡ b
end_one places move a b x y =
    let same : x.0 ≡ y.0 = cc (x.1, y.1) in
    let firsts = ap (λ (q : Place). q.first) same in
    omega (arith, x.3, y.3, firsts)

one_trigger : (notion : Notion) (p : PairsView) (side : Side) (set k : ℕ) (s t : Trigger) → IsTriggerAt notion p side set k s
    → IsTriggerAt notion p side set k t → s ≡ t
one_trigger Efce p side set k s t x y =
    let at : SetId = record { 0 = set } in
    same_trigger s t (x.0 ∙ sym y.0) (x.1 ∙ sym y.1) (x.2 ∙ sym y.2) (end_one (side_of side p.seqs).places (at, k) s.seq t.seq x.3 y.3)
one_trigger Efcce p side set k s t x y =
    same_trigger s t (x.0 ∙ sym y.0) (x.1 ∙ sym y.1) (x.2 ∙ sym y.2) (own_seq_one (side_of side p.seqs) set s.seq t.seq x.3 y.3)
one_trigger Nfcce p side set k s t x y = absurd x

stands_at_set : (notion : Notion) (p : PairsView) (side : Side) (set k : ℕ) (t : Trigger) → IsTriggerAt notion p side set k t
    → (t.side ≡ side) × (t.set ≡ Some record { 0 = set })
stands_at_set Efce p side set k t x = (x.0, x.1)
stands_at_set Efcce p side set k t x = (x.0, x.1)
stands_at_set Nfcce p side set k t x = absurd x

set_in : (notion : Notion) (g : GameView) (p : PairsView) → IsPairsOf g p → (side : Side) (set k : ℕ) (t : Trigger)
    → IsTriggerAt notion p side set k t → set < length (sets_of side g)
set_in Efce g p whose side set k t x =
    omega (arith, slice_get_within (side_of side p.seqs).places set x.3.0 x.3.1, (whose.sides side).per_set)
set_in Efcce g p whose side set k t x =
    omega (arith, slice_get_within (side_of side p.seqs).places set x.3.0 x.3.1, (whose.sides side).per_set)
set_in Nfcce g p whose side set k t x = absurd x

-- ---- the block

counted_as : (each : SetInfo → ℕ) (g : GameView) (p : PairsView) (a b : Side) (s t : Option SetId) (count : ℕ) → a ≡ b → s ≡ t
    → HasCount each g p b t count → HasCount each g p a s count
counted_as each g p a b s t count e f h = rw (e, f) h

module _ (notion : Notion) (g : GameView) (p : PairsView) (side : Side) (set k times : ℕ) (triggers : TriggersAt notion g side set times)
    (which : k < times) (inside : set < length (sets_of side g)) where
  -- where something of a trigger stands that each trigger has so much of
  record Stands (each : SetInfo → ℕ) (more total : ℕ) : Type 0 where
    pub at : ℕ
    pub count : ℕ
    pub behind : StandsBehind each more notion g p side set k at
    pub counted : HasCount each g p side (Some record { 0 = set }) count
    pub low : at + (count + more) ≤ total

  stands : (each : SetInfo → ℕ) (more total : ℕ) → IsSum (HasCountAt each more notion g p side) (length (sets_of side g)) total
      → Stands each more total
  stands each more total sum =
      let room = sum_room (HasCountAt each more notion g p side) (length (sets_of side g)) total set sum inside in
      let here = room.3 in
      let same = times_one notion g side set here.0 times here.2 triggers in
      let size = here.1 + more in
      let number : room.1 ≡ times * size = here.4 ∙ ap (λ (n : ℕ). n * size) same in
      let low = row_fits k size times size which (omega arith) in
      record {
        at = room.0 + k * size;
        count = here.1;
        behind = (room.0, here.1, times, room.2, here.3, triggers, which, refl);
        counted = here.3;
        low = omega (arith, room.4, number, low);
      }

at_sets_block : (notion : Notion) (g : GameView) (p : PairsView) → IsPairsOf g p
    → (side : Side) (trigger : Trigger) (rows values floor cols all_rows all_values : ℕ) (more : LpView)
    → HasRowsAtSets notion g p side (length (sets_of side g)) rows values floor cols more
    → IsSum (HasCountAt row_each 1 notion g p side) (length (sets_of side g)) all_rows
    → IsSum (HasCountAt value_each 0 notion g p side) (length (sets_of side g)) all_values
    → IsSomeTriggerAt notion g p side trigger → HasBlock g p trigger floor cols more (rows + all_rows) (values + all_values)
at_sets_block notion g p whose side trigger rows values floor cols all_rows all_values more blocks row_sum value_sum
    (set, k, times, triggers, which, is) =
    let inside = set_in notion g p whose side set k trigger is in
    let row = stands notion g p side set k times triggers which inside row_each 1 all_rows row_sum in
    let value = stands notion g p side set k times triggers which inside value_each 0 all_values value_sum in
    let found = blocks set k row.at value.at inside row.behind value.behind in
    let same = one_trigger notion p side set k found.0 trigger found.1 is in
    let sides = stands_at_set notion p side set k trigger is in
    let Rows : Trigger → Type 0 = λ t. HasRowsOf g p t (rows + row.at) (values + value.at) floor cols more in
    let block = subst Rows same found.2 in
    let counted : HasCount row_each g p trigger.side trigger.set row.count =
    counted_as row_each g p trigger.side side trigger.set (Some record { 0 = set }) row.count sides.0 sides.1 row.counted in
    let valued : HasCount value_each g p trigger.side trigger.set value.count =
    counted_as value_each g p trigger.side side trigger.set (Some record { 0 = set }) value.count sides.0 sides.1 value.counted in
    let row_count = count_one row_each g p trigger.side trigger.set block.row_count row.count block.placed.all_rows counted in
    let value_count = count_one value_each g p trigger.side trigger.set block.value_count value.count block.placed.all_values valued in
    record {
      first = rows + row.at;
      values = values + value.at;
      rows = block;
      rows_low = omega (arith, row.low, row_count);
      values_low = omega (arith, value.low, value_count);
    }

pub block_of : (notion : Notion) (g : GameView) (p : PairsView) → IsPairsOf g p
    → (side : Side) (trigger : Trigger) (rows values floor cols all_rows all_values : ℕ) (more : LpView)
    → HasRowsFor notion g p side rows values floor cols more → HasTotal row_each 1 notion g p side all_rows
    → HasTotal value_each 0 notion g p side all_values → IsProgramTrigger notion g p side trigger
    → HasBlock g p trigger floor cols more (rows + all_rows) (values + all_values)
block_of Efce g p whose side trigger rows values floor cols all_rows all_values more blocks total worth is =
    at_sets_block Efce g p whose side trigger rows values floor cols all_rows all_values more blocks total worth is
block_of Efcce g p whose side trigger rows values floor cols all_rows all_values more blocks total worth is =
    at_sets_block Efcce g p whose side trigger rows values floor cols all_rows all_values more blocks total worth is
block_of Nfcce g p whose side trigger rows values floor cols all_rows all_values more block total worth is =
    let Block : Trigger → Type 0 = λ t. HasBlock g p t floor cols more (rows + all_rows) (values + all_values) in
    let row_count = count_one row_each g p side None block.row_count total.0 block.placed.all_rows total.1 in
    let value_count = count_one value_each g p side None block.value_count worth.0 block.placed.all_values worth.1 in
    let here : Block (start_trigger side) = record {
      first = rows;
      values = values;
      rows = block;
      rows_low = omega (arith, row_count, total.2);
      values_low = omega (arith, value_count, worth.2);
    } in
    subst Block (sym is) here
