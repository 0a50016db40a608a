-- One family of numbers in which each trigger of a notion's program finds the values of its sets where its block of rows has their columns:
-- set behind set within a trigger, trigger behind trigger at a set, set behind set of a player, and the second player behind the first.
use Rattle.std.proofs.Common.{◌≡◌, inl, inr, ℕ, ◌+◌, ◌*◌, ◌<◌, ◌≤◌, Option, Some, None, length, ℤ, pos, ◌≤ℤ◌}
use Rattle.std.proofs.Common.{refl, sym, ap, subst, ◌∙◌, arith}
use Rattle.std.proofs.lemmas.Bool.{cases_lt}
use Rattle.corr_game.specs.declared.nodes.SetId.{SetId}
use Rattle.corr_game.specs.declared.nodes.SetInfo.{SetInfo}
use Rattle.corr_game.specs.declared.notions.Notion.{Notion}
use Rattle.corr_game.specs.declared.notions.Notion.TheVariants.{Efce, Efcce, Nfcce}
use Rattle.corr_game.specs.declared.sides.Side.{Side}
use Rattle.corr_game.specs.declared.sides.Side.TheVariants.{One, Two}
use Rattle.corr_game.specs.Game.{GameView, sets_of}
use Rattle.sequences.proofs.Adding.{within}
use Rattle.sequences.specs.Number.{side_of}
use Rattle.lp_form.specs.Program.{LpView}
use Rattle.connected_pairs.specs.Connected.{PairsView}
use Rattle.incentive_rows.proofs.Counts.{count_at_one, count_one, counts_one, times_one}
use Rattle.incentive_rows.proofs.Sums.{sum_one, sum_room}
use Rattle.incentive_rows.specs.declared.triggers.Trigger.{Trigger}
use Rattle.incentive_rows.specs.Size.{CountsFor, HasCount, HasCountAt, HasTotal, HasTotalAt, row_each, value_each}
use Rattle.incentive_rows.specs.Standing.{HasRowsAtSets, HasRowsFor, HasRowsOf, IsTriggerAt, StandsBehind}
use Rattle.incentive_rows.specs.Standing.{at_start as start_trigger}
use Rattle.incentive_rows.specs.Sum.{IsSum}
use Rattle.incentive_rows.specs.Trigger.{HasSet, TriggersAt}
use Rattle.plan_polytope.proofs.OneIncentives.{rest_of}
use Rattle.plan_polytope.specs.NotionProgram.{IsProgramOf}
use Rattle.equilibrium_solutions.proofs.Spreading.{behind, blocks, chosen, in_block, in_sum, spread}
use Rattle.equilibrium_solutions.specs.Decision.{AreValues, at_start}
use Rattle.equilibrium_solutions.specs.Departure.{OwnSequences, departure, followed}
use Rattle.equilibrium_solutions.specs.Values.{HasValues, IsProgramTrigger}

-- ---- the values of one trigger

-- values of a trigger's sets, worth no more than following, that stand behind so many numbers of a family
pub record HasColumns (g : GameView) (p : PairsView) (own : (side : Side) → OwnSequences side g) (x : ℕ → ℤ)
    (trigger : Trigger) (first : ℕ) (f : ℕ → ℤ) : Type 0 where
  pub value : ℕ → ℤ
  pub are_values : AreValues (departure g p trigger (own trigger.side) x) value
  pub worth : at_start (departure g p trigger (own trigger.side) x) value ≤ℤ followed g p trigger (own trigger.side) x
  pub each : (set v : ℕ) → set < length (sets_of trigger.side g) → HasSet (side_of trigger.side p.seqs) trigger.set set
      → IsSum (CountsFor value_each g p trigger.side trigger.set) set v → f (first + v) ≡ value set

zero_more : (k : ℕ) → 0 + k ≡ k
zero_more k = omega arith

-- a set of a trigger is one value
one_value : (g : GameView) (p : PairsView) (side : Side) (top : Option SetId) (set : ℕ) → set < length (sets_of side g)
    → HasSet (side_of side p.seqs) top set → CountsFor value_each g p side top set 1
one_value g p side top set low has = (let info = within (sets_of side g) set low in (info.0, info.1, inl (has, refl)))

module _ (g : GameView) (p : PairsView) (own : (side : Side) → OwnSequences side g) (x : ℕ → ℤ) where
  trigger_columns : (trigger : Trigger) (count : ℕ) → HasCount value_each g p trigger.side trigger.set count
      → HasValues g p trigger (own trigger.side) x → (f : ℕ → ℤ) × HasColumns g p own x trigger 0 f
  trigger_columns trigger count counted values =
      let term = CountsFor value_each g p trigger.side trigger.set in
      let all = spread term (counts_one value_each g p trigger.side trigger.set) (length (sets_of trigger.side g)) count counted
      (λ set j. values.0 set) in (
        all.0,
        record {
          value = values.0;
          are_values = values.1;
          worth = values.2;
          each = λ set v low has sum.
              let there : 0 + v ≡ v + 0 = omega arith in
              ap all.0 there
              ∙ all.1.each set v 1 0 low sum (one_value g p trigger.side trigger.set set low has) (omega arith);
        },
      )

  same_place : (trigger : Trigger) (a b : ℕ) (f : ℕ → ℤ) → a ≡ b → HasColumns g p own x trigger a f → HasColumns g p own x trigger b f
  same_place trigger a b f same has = rw (← same) has

  -- the same values in another family
  shifted : (trigger : Trigger) (count first at : ℕ) (f h : ℕ → ℤ) → HasCount value_each g p trigger.side trigger.set count
      → ((j : ℕ) → j < count → h (at + j) ≡ f (first + j)) → HasColumns g p own x trigger first f → HasColumns g p own x trigger at h
  shifted trigger count first at f h counted same has = record {
    value = has.value;
    are_values = has.are_values;
    worth = has.worth;
    each = λ set v low in_it sum.
        let term = CountsFor value_each g p trigger.side trigger.set in
        let one = counts_one value_each g p trigger.side trigger.set in
        let room = sum_room term (length (sets_of trigger.side g)) count set counted low in
        let part = sum_one term one set room.0 v room.2 sum in
        let size = one.same set room.1 1 room.3 (one_value g p trigger.side trigger.set set low in_it) in
        same v (omega (arith, room.4, part, size)) ∙ has.each set v low in_it sum;
  }

-- ---- where a trigger stands

trigger_side : (notion : Notion) (p : PairsView) (side : Side) (set k : ℕ) (t : Trigger) → IsTriggerAt notion p side set k t
    → (t.side ≡ side) × (t.set ≡ Some record { 0 = set })
trigger_side Efce p side set k t is = (is.0, is.1)
trigger_side Efcce p side set k t is = (is.0, is.1)
trigger_side Nfcce p side set k t is = absurd is

program_trigger : (notion : Notion) (g : GameView) (p : PairsView) (side : Side) (set k times : ℕ) (t : Trigger)
    → TriggersAt notion g side set times → k < times → IsTriggerAt notion p side set k t → IsProgramTrigger notion g p side t
program_trigger Efce g p side set k times t triggers low is = (set, k, times, triggers, low, is)
program_trigger Efcce g p side set k times t triggers low is = (set, k, times, triggers, low, is)
program_trigger Nfcce g p side set k times t triggers low is = absurd is

stands_one : (each : SetInfo → ℕ) (more : ℕ) (notion : Notion) (g : GameView) (p : PairsView) (side : Side) (set k a b : ℕ)
    → StandsBehind each more notion g p side set k a → StandsBehind each more notion g p side set k b → a ≡ b
stands_one each more notion g p side set k a b s t =
    let before = sum_one (HasCountAt each more notion g p side) (count_at_one each more notion g p side) set s.0 t.0 s.3 t.3 in
    let count = count_one each g p side (Some record { 0 = set }) s.1 t.1 s.4 t.4 in
    let size = ap (λ (n : ℕ). k * (n + more)) count in
    omega (arith, before, size, s.7, t.7)

-- ---- the triggers at a player's sets

-- where blocks of rows stand: behind so many rows and values, over so many columns with this floor
pub record Base : Type 0 where
  pub rows : ℕ
  pub values : ℕ
  pub floor : ℕ
  pub cols : ℕ

-- the block of the k-th trigger at a set, and its values behind so many numbers of a family
pub record IsBlock (notion : Notion) (g : GameView) (p : PairsView) (own : (side : Side) → OwnSequences side g) (x : ℕ → ℤ)
    (side : Side) (base : Base) (all_values : ℕ) (lp : LpView) (set k at : ℕ) (f : ℕ → ℤ) : Type 0 where
  pub trigger : Trigger
  pub which : IsProgramTrigger notion g p side trigger
  pub first : ℕ
  pub value : ℕ
  pub behind_rows : StandsBehind row_each 1 notion g p side set k first
  pub behind_values : StandsBehind value_each 0 notion g p side set k value
  pub block : HasRowsOf g p trigger (base.rows + first) (base.values + value) base.floor base.cols lp
  pub of_side : trigger.side ≡ side
  pub at_set : trigger.set ≡ Some record { 0 = set }
  pub room : value + block.value_count ≤ all_values
  pub columns : HasColumns g p own x trigger at f

-- a row of the program is one of a trigger's block, whose values stand in a family
pub record HasRow (notion : Notion) (g : GameView) (p : PairsView) (own : (side : Side) → OwnSequences side g) (x : ℕ → ℤ)
    (side : Side) (floor cols all_values : ℕ) (lp : LpView) (offset row : ℕ) (f : ℕ → ℤ) : Type 0 where
  pub trigger : Trigger
  pub which : IsProgramTrigger notion g p side trigger
  pub first : ℕ
  pub at : ℕ
  pub block : HasRowsOf g p trigger first (offset + at) floor cols lp
  pub room : at + block.value_count ≤ all_values
  pub columns : HasColumns g p own x trigger at f
  pub r : ℕ
  pub low : r ≤ block.row_count
  pub stands : row ≡ first + r

module _ (notion : Notion) (g : GameView) (p : PairsView) (own : (side : Side) → OwnSequences side g) (x : ℕ → ℤ) (side : Side)
    (lp : LpView) (each : (trigger : Trigger) → IsProgramTrigger notion g p side trigger → HasValues g p trigger (own trigger.side) x) where
  module _ (base : Base) (all_rows all_values : ℕ)
      (rows : HasRowsAtSets notion g p side (length (sets_of side g)) base.rows base.values base.floor base.cols lp)
      (row_total : HasTotalAt row_each 1 notion g p side all_rows) (value_total : HasTotalAt value_each 0 notion g p side all_values) where
    abbrev Block : ℕ → ℕ → ℕ → (ℕ → ℤ) → Type 0
    Block set k at f = IsBlock notion g p own x side base all_values lp set k at f

    -- one trigger
    one_block : (set k times : ℕ) → set < length (sets_of side g) → TriggersAt notion g side set times → k < times
        → (f : ℕ → ℤ) × Block set k 0 f
    one_block set k times low triggers which =
        let of_rows = sum_room (HasCountAt row_each 1 notion g p side) (length (sets_of side g)) all_rows set row_total low in
        let of_values = sum_room (HasCountAt value_each 0 notion g p side) (length (sets_of side g)) all_values set value_total low in
        let here = of_rows.3 in
        let there = of_values.3 in
        let first = of_rows.0 + k * (here.1 + 1) in
        let value = of_values.0 + k * (there.1 + 0) in
        let stands : StandsBehind row_each 1 notion g p side set k first =
        (of_rows.0, here.1, times, of_rows.2, here.3, triggers, which, refl) in
        let worth : StandsBehind value_each 0 notion g p side set k value =
        (of_values.0, there.1, times, of_values.2, there.3, triggers, which, refl) in
        let found = rows set k first value low stands worth in
        let sides = trigger_side notion p side set k found.0 found.1 in
        let is = program_trigger notion g p side set k times found.0 triggers which found.1 in
        let counted : HasCount value_each g p found.0.side found.0.set there.1 = rw (sides.0, sides.1) there.3 in
        let columns = trigger_columns g p own x found.0 there.1 counted (each found.0 is) in
        let same = count_one value_each g p found.0.side found.0.set found.2.value_count there.1 found.2.placed.all_values counted in
        let as_many = times_one notion g side set times there.0 triggers there.2 in
        let rest = rest_of (k + 1) times (omega (arith, which)) in
        let whole : k * (there.1 + 0) + there.1 ≤ times * (there.1 + 0) = rw rest.1 (omega arith) in
        let total = ap (λ (n : ℕ). n * (there.1 + 0)) as_many in (
          columns.0,
          record {
            trigger = found.0;
            which = is;
            first = first;
            value = value;
            behind_rows = stands;
            behind_values = worth;
            block = found.2;
            of_side = sides.0;
            at_set = sides.1;
            room = omega (arith, of_values.4, there.4, total, whole, same);
            columns = columns.1;
          },
        )

    -- its number of values
    as_long : (set k at count : ℕ) (f : ℕ → ℤ) → HasCount value_each g p side (Some record { 0 = set }) count → (b : Block set k at f)
        → b.block.value_count ≡ count
    as_long set k at count f counted b =
        let here : HasCount value_each g p b.trigger.side b.trigger.set count = rw (b.of_side, b.at_set) counted in
        count_one value_each g p b.trigger.side b.trigger.set b.block.value_count count b.block.placed.all_values here

    moved : (set k first at count : ℕ) (f h : ℕ → ℤ) → HasCount value_each g p side (Some record { 0 = set }) count
        → ((j : ℕ) → j < count → h (at + j) ≡ f (first + j)) → Block set k first f → Block set k at h
    moved set k first at count f h counted same b =
        let long = as_long set k first count f counted b in
        record {
          trigger = b.trigger;
          which = b.which;
          first = b.first;
          value = b.value;
          behind_rows = b.behind_rows;
          behind_values = b.behind_values;
          block = b.block;
          of_side = b.of_side;
          at_set = b.at_set;
          room = b.room;
          columns = shifted g p own x b.trigger b.block.value_count first at f h b.block.placed.all_values
              (λ j low. same j (omega (arith, low, long))) b.columns;
        }

    -- the triggers at one set
    abbrev AtSet : ℕ → (ℕ → ℤ) → Type 0
    AtSet set f = (k times count : ℕ) → TriggersAt notion g side set times → k < times
        → HasCount value_each g p side (Some record { 0 = set }) count → Block set k (k * (count + 0)) f

    set_columns : (set : ℕ) → set < length (sets_of side g) → (f : ℕ → ℤ) × AtSet set f
    set_columns set low =
        let of_values = sum_room (HasCountAt value_each 0 notion g p side) (length (sets_of side g)) all_values set value_total low in
        let there = of_values.3 in
        let picks = chosen (λ (j : ℕ). pos 0) (λ k f. Block set k 0 f) there.0 (λ k which. one_block set k there.0 low there.2 which) in
        let all = blocks there.0 (there.1 + 0) picks.0 in (
          all.0,
          λ k times count triggers which counted.
              let as_many = times_one notion g side set times there.0 triggers there.2 in
              let long = count_one value_each g p side (Some record { 0 = set }) count there.1 counted there.3 in
              let in_it : k < there.0 = omega (arith, which, as_many) in
              moved set k 0 (k * (count + 0)) count (picks.0 k) all.0 counted
              (λ j less.
              let start = ap (λ (n : ℕ). all.0 (k * (n + 0) + j)) long in
              start ∙ all.1.each k j in_it (omega (arith, less, long)) ∙ ap (picks.0 k) (sym (zero_more j)))
              (picks.1 k in_it),
        )

    -- the triggers at all sets
    side_columns : (f : ℕ → ℤ) × ((set k at : ℕ) → set < length (sets_of side g)
        → StandsBehind value_each 0 notion g p side set k at → Block set k at f)
    side_columns =
        let term = HasCountAt value_each 0 notion g p side in
        let picks = chosen (λ (j : ℕ). pos 0) AtSet (length (sets_of side g)) set_columns in
        let all = spread term (count_at_one value_each 0 notion g p side) (length (sets_of side g)) all_values value_total picks.0 in (
          all.0,
          λ set k at low stands.
              let count = stands.1 in
              let times = stands.2 in
              let size = times * (count + 0) in
              let here : term set size = (times, count, stands.5, stands.4, refl) in
              let rest = rest_of (k + 1) times (omega (arith, stands.6)) in
              moved set k (k * (count + 0)) at count (picks.0 set) all.0 stands.4
              (λ j less.
              let inside : k * (count + 0) + j < size = rw rest.1 (omega (arith, less)) in
              let place : at + j ≡ stands.0 + (k * (count + 0) + j) = omega (arith, stands.7) in
              ap all.0 place ∙ all.1.each set stands.0 size (k * (count + 0) + j) low stands.3 here inside)
              (picks.1 set low k times count stands.5 stands.6 stands.4),
        )

    -- the row of a block that a row of the player's is
    row_at_sets : (row : ℕ) → row < all_rows
        → HasRow notion g p own x side base.floor base.cols all_values lp base.values (base.rows + row) side_columns.0
    row_at_sets row low =
        let term = HasCountAt row_each 1 notion g p side in
        let found = in_sum term (length (sets_of side g)) all_rows row row_total low in
        let set = found.at in
        let here = found.here in
        let parts = in_block here.0 (here.1 + 1) found.offset (omega (arith, found.inside, here.4)) in
        let k = parts.0 in
        let of_values = sum_room (HasCountAt value_each 0 notion g p side) (length (sets_of side g)) all_values set value_total found.low in
        let there = of_values.3 in
        let value = of_values.0 + k * (there.1 + 0) in
        let stands : StandsBehind row_each 1 notion g p side set k (found.before + k * (here.1 + 1)) =
        (found.before, here.1, here.0, found.sum, here.3, here.2, parts.2, refl) in
        let worth : StandsBehind value_each 0 notion g p side set k value =
        (of_values.0, there.1, here.0, of_values.2, there.3, here.2, parts.2, refl) in
        let b = side_columns.1 set k value found.low worth in
        let first = stands_one row_each 1 notion g p side set k b.first _ b.behind_rows stands in
        let at = stands_one value_each 0 notion g p side set k value b.value worth b.behind_values in
        let counted : HasCount row_each g p b.trigger.side b.trigger.set here.1 = rw (b.of_side, b.at_set) here.3 in
        let long = count_one row_each g p b.trigger.side b.trigger.set b.block.row_count here.1 b.block.placed.all_rows counted in
        record {
          trigger = b.trigger;
          which = b.which;
          first = base.rows + b.first;
          at = b.value;
          block = b.block;
          room = b.room;
          columns = same_place g p own x b.trigger value b.value side_columns.0 at b.columns;
          r = parts.1;
          low = omega (arith, parts.3, long);
          stands = omega (arith, found.stands, parts.4, first);
        }

  -- ---- the trigger before play begins

  row_at_start : (base : Base) (trigger : Trigger) → IsProgramTrigger notion g p side trigger
      → (block : HasRowsOf g p trigger base.rows base.values base.floor base.cols lp) → (f : ℕ → ℤ)
      × ((row : ℕ) → row < block.row_count + 1
      → HasRow notion g p own x side base.floor base.cols block.value_count lp base.values (base.rows + row) f)
  row_at_start base trigger which block =
      let columns = trigger_columns g p own x trigger block.value_count block.placed.all_values (each trigger which) in
      let same : base.values ≡ base.values + 0 = omega arith in
      let moved_block = subst (λ (n : ℕ). (b : HasRowsOf g p trigger base.rows n base.floor base.cols lp)
      × (b.value_count ≡ block.value_count) × (b.row_count ≡ block.row_count)) same (block, refl, refl) in (
        columns.0,
        λ row low. record {
          trigger = trigger;
          which = which;
          first = base.rows;
          at = 0;
          block = moved_block.0;
          room = omega (arith, moved_block.1);
          columns = columns.1;
          r = row;
          low = omega (arith, low, moved_block.2);
          stands = refl;
        },
      )

-- ---- all triggers of a player, and of both

module _ (g : GameView) (p : PairsView) (own : (side : Side) → OwnSequences side g) (x : ℕ → ℤ) where
  side_rows : (notion : Notion) (side : Side) (base : Base) (lp : LpView) (all_rows all_values : ℕ)
      → ((trigger : Trigger) → IsProgramTrigger notion g p side trigger → HasValues g p trigger (own trigger.side) x)
      → HasRowsFor notion g p side base.rows base.values base.floor base.cols lp
      → HasTotal row_each 1 notion g p side all_rows → HasTotal value_each 0 notion g p side all_values → (f : ℕ → ℤ)
      × ((row : ℕ) → row < all_rows → HasRow notion g p own x side base.floor base.cols all_values lp base.values (base.rows + row) f)
  side_rows Efce side base lp all_rows all_values each rows row_total value_total = (
    (side_columns Efce g p own x side lp each base all_rows all_values rows row_total value_total).0,
    row_at_sets Efce g p own x side lp each base all_rows all_values rows row_total value_total,
  )
  side_rows Efcce side base lp all_rows all_values each rows row_total value_total = (
    (side_columns Efcce g p own x side lp each base all_rows all_values rows row_total value_total).0,
    row_at_sets Efcce g p own x side lp each base all_rows all_values rows row_total value_total,
  )
  side_rows Nfcce side base lp all_rows all_values each rows row_total value_total =
      let found = row_at_start Nfcce g p own x side lp each base (start_trigger side) refl rows in
      let long = count_one row_each g p side None rows.row_count row_total.0 rows.placed.all_rows row_total.1 in
      let many = count_one value_each g p side None rows.value_count value_total.0 rows.placed.all_values value_total.1 in
      let all : rows.value_count ≡ all_values = omega (arith, many, value_total.2) in (
        found.0,
        λ row low. subst
            (λ (n : ℕ). HasRow Nfcce g p own x side base.floor base.cols n lp base.values (base.rows + row) found.0) all
            (found.1 row (omega (arith, low, long, row_total.2))),
      )

  -- the same row by the numbers of all triggers
  row_moved : (notion : Notion) (side : Side) (floor cols few all : ℕ) (lp : LpView) (offset row : ℕ) (f h : ℕ → ℤ) → offset + few ≤ all
      → ((k : ℕ) → k < few → h (offset + k) ≡ f k) → HasRow notion g p own x side floor cols few lp offset row f
      → HasRow notion g p own x side floor cols all lp 0 row h
  row_moved notion side floor cols few all lp offset row f h long same has =
      let place : offset + has.at ≡ 0 + (offset + has.at) = omega arith in
      let block = subst (λ (n : ℕ). (b : HasRowsOf g p has.trigger has.first n floor cols lp)
      × (b.value_count ≡ has.block.value_count) × (b.row_count ≡ has.block.row_count)) place (has.block, refl, refl) in
      record {
        trigger = has.trigger;
        which = has.which;
        first = has.first;
        at = offset + has.at;
        block = block.0;
        room = omega (arith, has.room, block.1, long);
        columns = shifted g p own x has.trigger has.block.value_count has.at (offset + has.at) f h has.block.placed.all_values
            (λ j low.
            let there : offset + has.at + j ≡ offset + (has.at + j) = omega arith in
            ap h there ∙ same (has.at + j) (omega (arith, low, has.room)))
            has.columns;
        r = has.r;
        low = omega (arith, has.low, block.2);
        stands = has.stands;
      }

  -- each incentive row of a program is one of some trigger's, whose values stand in one family of numbers for all of them
  pub value_columns : (notion : Notion) (lp : LpView) (program : IsProgramOf g p notion lp)
      → ((side : Side) (trigger : Trigger) → IsProgramTrigger notion g p side trigger → HasValues g p trigger (own trigger.side) x)
      → (f : ℕ → ℤ) × ((row : ℕ) → row < program.incentives → (side : Side)
      × HasRow notion g p own x side (length p.pairs + program.values) program.more.cols program.values program.more 0 row f)
  value_columns notion lp program each =
      let size = program.size in
      let floor = length p.pairs + program.values in
      let cols = program.more.cols in
      let first : Base = record { rows = 0; values = 0; floor = floor; cols = cols } in
      let second : Base = record { rows = size.rows_one; values = size.values_one; floor = floor; cols = cols } in
      let one = side_rows notion One first program.more size.rows_one size.values_one (each One) program.of_one size.of_one
      size.values_of_one in
      let two = side_rows notion Two second program.more size.rows_two size.values_two (each Two) program.of_two size.of_two
      size.values_of_two in
      let all = behind size.values_one one.0 two.0 in (
        all.0,
        λ row low. (elim (cases_lt row size.rows_one) [
          | inl front ↦ (
            One,
            row_moved notion One floor cols size.values_one program.values program.more 0 row one.0 all.0 (omega (arith, size.all_values))
                (λ k less. ap all.0 (zero_more k) ∙ all.1.front k less)
                (subst (λ (n : ℕ). HasRow notion g p own x One floor cols size.values_one program.more 0 n one.0) (zero_more row)
                (one.1 row front)),
          )
          | inr back ↦ (
            Two,
            (let rest = rest_of size.rows_one row back in
                let in_it : rest.0 < size.rows_two = omega (arith, low, rest.1, size.all_rows) in
                row_moved notion Two floor cols size.values_two program.values program.more size.values_one row two.0 all.0
                (omega (arith, size.all_values)) (λ k less. all.1.back k)
                (subst (λ (n : ℕ). HasRow notion g p own x Two floor cols size.values_two program.more size.values_one n two.0) (sym rest.1)
                (two.1 rest.0 in_it))),
          )
        ]),
      )
