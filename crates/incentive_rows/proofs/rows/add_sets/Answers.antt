-- The rows of the sets gone over and of the next one are within those of all.
use Rattle.incentive_rows.specs.Standing.{HasRowsAtSets}
use Rattle.std.proofs.lemmas.Bool.{cases_lt}
use Rattle.std.proofs.Common.{◌≡◌, ℕ, length, subst, sym, inl, inr, arith}
use Rattle.corr_game.specs.Game.{sets_of}
use Rattle.incentive_rows.specs.Size.{HasCountAt, row_each, value_each}
use Rattle.incentive_rows.proofs.Sums.{sum_room, sum_split}
use Rattle.incentive_rows.proofs.Parts.{adds_as, adds_none, adds_on, room_left, rows_as, rows_kept}
use Rattle.incentive_rows.proofs.rows.add_sets.Goals as goal

pub add_triggers-requires-clause-before : goal.add_triggers-requires-clause-before
add_triggers-requires-clause-before c =
    let room = c.requires.room in
    let count = length (sets_of c.args.side c.args.game.now) in
    let rows = sum_room (HasCountAt row_each 1 c.args.notion c.args.game.now c.args.pairs.now c.args.side) count room.0 c.loop-set.set room.2 (omega arith) in
    let values = sum_room (HasCountAt value_each 0 c.args.notion c.args.game.now c.args.pairs.now c.args.side) count room.1 c.loop-set.set room.3 (omega arith) in
    (c.loop-set.invariant.0 rows.0 values.0 rows.2 values.2).made

pub add_triggers-requires-clause-room : goal.add_triggers-requires-clause-room
add_triggers-requires-clause-room c =
    let room = c.requires.room in
    let count = length (sets_of c.args.side c.args.game.now) in
    let rows = sum_room (HasCountAt row_each 1 c.args.notion c.args.game.now c.args.pairs.now c.args.side) count room.0 c.loop-set.set room.2 (omega arith) in
    let values = sum_room (HasCountAt value_each 0 c.args.notion c.args.game.now c.args.pairs.now c.args.side) count room.1 c.loop-set.set room.3 (omega arith) in
    (rows.1, values.1, rows.3, values.3, room_left rows.1 values.1 room.4 (c.loop-set.invariant.0 rows.0 values.0 rows.2 values.2) rows.4 values.4)

pub loop-set-init : goal.loop-set-init
loop-set-init c = (
  λ rows values r v. adds_as rows values (adds_none c.args.part c.requires.before) (omega (arith, r)) (omega (arith, v)),
  λ set k first value low. absurd (omega arith),
)

pub loop-set-preserved : goal.loop-set-preserved
loop-set-preserved c =
    let of_rows = HasCountAt row_each 1 c.args.notion c.args.game.now c.args.pairs.now c.args.side in
    let of_values = HasCountAt value_each 0 c.args.notion c.args.game.now c.args.pairs.now c.args.side in
    let room = c.requires.room in
    let count = length (sets_of c.args.side c.args.game.now) in
    let next_rows = sum_room of_rows count room.0 c.loop-set.set room.2 (omega arith) in
    let next_values = sum_room of_values count room.1 c.loop-set.set room.3 (omega arith) in
    let more = c.in_ok-made.ensures.size next_rows.1 next_values.1 next_rows.3 next_values.3 in (
      λ rows values r v.
          let rows_parts = sum_split of_rows c.loop-set.set rows r in
          let values_parts = sum_split of_values c.loop-set.set values v in
          adds_on rows values (c.loop-set.invariant.0 rows_parts.0 values_parts.0 rows_parts.2 values_parts.2) (c.in_ok-made.ensures.size rows_parts.1 values_parts.1 rows_parts.3 values_parts.3) rows_parts.4 values_parts.4,
      λ set k first value low r v. elim (cases_lt set c.loop-set.set) [
        | inl below ↦
            let old = c.loop-set.invariant.1 set k first value below r v in
            (old.0, old.1, rows_kept old.2 more.extends)
        | inr above ↦
            let last : set ≡ c.loop-set.set = omega arith in
            let behind_rows = rw last at r in
            let behind_values = rw last at v in
            let so_far = c.loop-set.invariant.0 behind_rows.0 behind_values.0 behind_rows.3 behind_values.3 in
            let here = c.in_ok-made.ensures.rows behind_rows.2 behind_rows.5 k behind_rows.1 behind_values.1 behind_rows.6 behind_rows.4 behind_values.4 in
            rw last (here.0, here.1, rows_as here.2 (omega (arith, so_far.more_rows, behind_rows.7)) (omega (arith, so_far.more_values, behind_values.7)) (sym so_far.floor) (sym so_far.columns))
      ],
    )

pub returns-clause-size : goal.returns-clause-size
returns-clause-size c = λ rows values r v.
    let all : c.loop-set.set ≡ length (sets_of c.args.side c.args.game.now) = omega arith in
    c.loop-set.invariant.0 rows values (rw all r) (rw all v)

pub returns-clause-rows : goal.returns-clause-rows
returns-clause-rows c =
    let all : c.loop-set.set ≡ length (sets_of c.args.side c.args.game.now) = omega arith in
    let part = c.args.part in
    let P : ℕ → Type 0 = λ n. HasRowsAtSets c.args.notion c.args.game.now c.args.pairs.now c.args.side n (length part.lp.rows) part.values part.floor part.lp.cols c.loop-set.made.lp in
    subst P all c.loop-set.invariant.1
