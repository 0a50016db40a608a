-- A solution of a notion's program has values of each trigger's sets that are worth no more than following: what stands in the value
-- columns over the floor, since right sides of the block's rows are 0 and slacks are 0 or more.
use Rattle.std.proofs.Common.{◌≡◌, ℕ, ◌+◌, ◌<◌, true, List, Option, Some, None, length, slice_get}
use Rattle.std.proofs.Common.{ℤ, pos, ◌-ℤ◌, ◌*ℤ◌, ◌≤ℤ◌, sym, ap, subst, ◌∙◌, arith}
use Rattle.std.proofs.lemmas.Int.{ints}
use Rattle.std.proofs.lemmas.List.{length-append}
use Rattle.exact_algebra.specs.Sums.{sum_to}
use Rattle.exact_algebra.proofs.RingLaws.{*ℤ-zero}
use Rattle.corr_game.specs.declared.nodes.SetInfo.{SetInfo}
use Rattle.corr_game.specs.declared.notions.Notion.{Notion}
use Rattle.corr_game.specs.declared.sides.Side.{Side}
use Rattle.corr_game.specs.declared.sides.Side.TheVariants.{One, Two}
use Rattle.corr_game.specs.Game.{GameView, sets_of}
use Rattle.sequences.proofs.Adding.{within}
use Rattle.connected_pairs.specs.Connected.{PairsView, IsPairs, IsPairsOf}
use Rattle.lp_form.specs.Row.{value_at}
use Rattle.lp_form.specs.declared.entries.Entry.{Entry}
use Rattle.lp_form.specs.Program.{LpView, coefficient, joined, right_of}
use Rattle.lp_form.specs.Solutions.{IsSolution}
use Rattle.incentive_rows.specs.declared.places.SetPlace.{SetPlace}
use Rattle.incentive_rows.specs.declared.triggers.Trigger.{Trigger}
use Rattle.incentive_rows.specs.Standing.{HasRowsOf}
use Rattle.incentive_rows.proofs.Parts.{joined_row}
use Rattle.plan_polytope.specs.NotionProgram.{IsProgramOf}
use Rattle.equilibrium_solutions.specs.Decision.{AreValues, after, at_start}
use Rattle.equilibrium_solutions.specs.Departure.{OwnSequences, actions_there, departure, followed, is_of}
use Rattle.equilibrium_solutions.specs.Values.{HasValues, IsProgramTrigger}
use Rattle.equilibrium_solutions.proofs.ProgramBlocks.{HasBlock, block_of}
use Rattle.equilibrium_solutions.proofs.RowMeaning.{HasColumns, Read, block_value, row_of_action, row_of_following}

-- numbers of 0 or more whose product with each row is 0
pub record MeetsRows (more : LpView) (y : ℕ → ℤ) : Type 0 where
  pub not_negative : (k : ℕ) → k < more.cols → pos 0 ≤ℤ y k
  pub zero : (r : ℕ) → r < length more.rows → sum_to more.cols (λ k. coefficient more r k *ℤ y k) ≡ pos 0

at_most : (a b slack sum : ℤ) → sum ≡ a -ℤ b -ℤ slack → sum ≡ pos 0 → pos 0 ≤ℤ slack → b ≤ℤ a
at_most a b slack sum e zero low = omega (arith, ints, e, zero, low)

module _ (g : GameView) (p : PairsView) (trigger : Trigger) (first values floor : ℕ) (more : LpView)
    (rows : HasRowsOf g p trigger first values floor more.cols more) (rules : IsPairs p) (whose : IsPairsOf g p)
    (room : HasColumns p first values floor more.cols rows.value_count rows.row_count) (own : OwnSequences trigger.side g)
    (read : Read g p trigger own) (y : ℕ → ℤ) (meets : MeetsRows more y) where
  abbrev value : ℕ → ℤ
  value = block_value p values floor rows.sets y

  placed_inside : (set : ℕ) → set < length (sets_of trigger.side g) → is_of trigger.side g trigger.set set ≡ true
      → (place : SetPlace) × (slice_get rows.sets set ≡ Some (Some place))
  placed_inside set low inside = by found.0 found.1
    where
      found : (place : Option SetPlace) × (slice_get rows.sets set ≡ Some place)
      found = within rows.sets set (omega (arith, low, rows.placed.per_set))

      by : (place : Option SetPlace) → slice_get rows.sets set ≡ Some place
          → (at : SetPlace) × (slice_get rows.sets set ≡ Some (Some at))
      by None e = absurd (rows.placed.others set e ((read.has set low).1 inside))
      by (Some place) e = (place, e)

  value_holds : (set action : ℕ) (place : SetPlace) (info : SetInfo) → slice_get rows.sets set ≡ Some (Some place)
      → slice_get (sets_of trigger.side g) set ≡ Some info → action < info.actions
      → after (departure g p trigger own y) value set action ≤ℤ value set
  value_holds set action place info at known low =
      let inside = (rows.placed.within set place info at known).1 in
      let row = row_of_action g p trigger first values floor more.cols more rows rules whose room own read y
      set action place info at known low in
      let number : first + (place.row + action) < length more.rows = omega (arith, inside, low, rows.inside) in
      at_most (value set) (after (departure g p trigger own y) value set action) (y (floor + 1 + first + (place.row + action))) _ row
      (meets.zero (first + (place.row + action)) number)
      (meets.not_negative (floor + 1 + first + (place.row + action)) (omega (arith, inside, low, room.for_slacks)))

  each_value : (set action : ℕ) → set < length (sets_of trigger.side g) → is_of trigger.side g trigger.set set ≡ true
      → action < actions_there (slice_get (sets_of trigger.side g) set)
      → after (departure g p trigger own y) value set action ≤ℤ value set
  each_value set action low inside there =
      let info = within (sets_of trigger.side g) set low in
      let place = placed_inside set low inside in
      let Low : Option SetInfo → Type 0 = λ i. action < actions_there i in
      value_holds set action place.0 info.0 place.1 info.1 (subst Low info.1 there)

  pub values_of_block : HasValues g p trigger own y
  values_of_block =
      let row = row_of_following g p trigger first values floor more.cols more rows rules whose room own read y in
      let follows : at_start (departure g p trigger own y) value ≤ℤ followed g p trigger own y =
      at_most (followed g p trigger own y) (at_start (departure g p trigger own y) value) (y (floor + 1 + first + rows.row_count)) _ row
      (meets.zero (first + rows.row_count) rows.inside)
      (meets.not_negative (floor + 1 + first + rows.row_count) (omega (arith, room.for_slacks))) in
      let are : AreValues (departure g p trigger own y) value =
      record { each = λ set action low inside there. each_value set action low inside there } in
      (value, are, follows)

-- ---- the rows behind those of the base

joined_meets : (base more : LpView) (total : ℤ) (y : ℕ → ℤ) → 0 < length base.rows
    → ((row : ℕ) → 0 < row → right_of (joined base more) row ≡ pos 0) → IsSolution (joined base more) total y → MeetsRows more y
joined_meets base more total y some zeros s = record {
  not_negative = s.not_negative;
  zero = λ r low.
      let row = length base.rows + r in
      let same = ap (λ (e : List Entry). sum_to more.cols (λ k. value_at e k *ℤ y k)) (joined_row base more r) in
      sym same ∙ s.meets row (omega (arith, length-append base.rows more.rows, low))
      ∙ ap (λ (c : ℤ). total *ℤ c) (zeros row (omega (arith, some)))
      ∙ *ℤ-zero total;
}

pub program_meets : (g : GameView) (p : PairsView) (notion : Notion) (lp : LpView) (program : IsProgramOf g p notion lp) (total : ℤ)
    (y : ℕ → ℤ) → IsSolution lp total y → MeetsRows program.more y
program_meets g p notion lp program total y s =
    let Solves : LpView → Type 0 = λ q. IsSolution q total y in
    let Zeros : LpView → Type 0 = λ q. (row : ℕ) → 0 < row → right_of q row ≡ pos 0 in
    joined_meets program.base program.more total y (omega (arith, program.correlation.count))
    (subst Zeros program.parts program.right_sides.zeros) (subst Solves program.parts s)

-- ---- each trigger's block

-- a trigger's block in a notion's program, within its incentive rows and its values
abbrev pub ProgramBlock : {g : GameView} {p : PairsView} {notion : Notion} {lp : LpView} → IsProgramOf g p notion lp → Trigger → Type 0
ProgramBlock {g} {p} {notion} {lp} program trigger =
    HasBlock g p trigger (length p.pairs + program.values) program.more.cols program.more program.incentives program.values

pub program_block : (g : GameView) (p : PairsView) (notion : Notion) (lp : LpView) → IsPairsOf g p → (program : IsProgramOf g p notion lp)
    → (side : Side) (trigger : Trigger) → IsProgramTrigger notion g p side trigger
    → ProgramBlock program trigger
program_block g p notion lp whose program One trigger is =
    let size = program.size in
    let block = block_of notion g p whose One trigger 0 0 (length p.pairs + program.values) program.more.cols size.rows_one size.values_one
    program.more program.of_one size.of_one size.values_of_one is in
    record {
      first = block.first;
      values = block.values;
      rows = block.rows;
      rows_low = omega (arith, block.rows_low, size.all_rows);
      values_low = omega (arith, block.values_low, size.all_values);
    }
program_block g p notion lp whose program Two trigger is =
    let size = program.size in
    let block = block_of notion g p whose Two trigger size.rows_one size.values_one (length p.pairs + program.values) program.more.cols
    size.rows_two size.values_two program.more program.of_two size.of_two size.values_of_two is in
    record {
      first = block.first;
      values = block.values;
      rows = block.rows;
      rows_low = omega (arith, block.rows_low, size.all_rows);
      values_low = omega (arith, block.values_low, size.all_values);
    }

pub program_columns : (g : GameView) (p : PairsView) (notion : Notion) (lp : LpView) (program : IsProgramOf g p notion lp)
    (trigger : Trigger) (block : ProgramBlock program trigger)
    → HasColumns p block.first block.values (length p.pairs + program.values) program.more.cols block.rows.value_count block.rows.row_count
program_columns g p notion lp program trigger block = record {
  for_values = omega (arith, block.values_low);
  for_slacks = omega (arith, block.rows_low, program.all_columns);
}

pub values_of_solution : (g : GameView) (p : PairsView) (notion : Notion) (lp : LpView) (total : ℤ) (y : ℕ → ℤ) → IsPairs p → IsPairsOf g p
    → IsProgramOf g p notion lp → IsSolution lp total y → (side : Side) (trigger : Trigger) → IsProgramTrigger notion g p side trigger
    → (own : OwnSequences trigger.side g) → Read g p trigger own → HasValues g p trigger own y
values_of_solution g p notion lp total y rules whose program s side trigger is own read =
    let block = program_block g p notion lp whose program side trigger is in
    values_of_block g p trigger block.first block.values (length p.pairs + program.values) program.more block.rows rules whose
    (program_columns g p notion lp program trigger block) own read y (program_meets g p notion lp program total y s)
