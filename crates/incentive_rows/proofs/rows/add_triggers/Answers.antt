-- The triggers at a set need the room of one block each.
use Rattle.incentive_rows.specs.Size.{HasCount, row_each, value_each}
use Rattle.std.proofs.lemmas.Bool.{cases_lt}
use Rattle.std.proofs.Common.{◌≡◌, ℕ, ◌+◌, Some, sym, inl, inr, arith}
use Rattle.incentive_rows.proofs.Counts.{times_one}
use Rattle.incentive_rows.proofs.Parts.{adds_as, adds_none, adds_on, one_more_of, room_left, rows_as, rows_kept}
use Rattle.incentive_rows.proofs.rows.add_triggers.Goals as goal

pub add_trigger-requires-clause-before : goal.add_trigger-requires-clause-before
add_trigger-requires-clause-before c =
    let room = c.requires.room in
    (c.loop-k.invariant.0 room.2.1 room.3.1 room.2.3 room.3.3).made

pub add_trigger-requires-clause-room : goal.add_trigger-requires-clause-room
add_trigger-requires-clause-room c =
    let room = c.requires.room in
    let k = c.loop-k.k in
    let made = c.loop-k.invariant.0 room.2.1 room.3.1 room.2.3 room.3.3 in
    let times = times_one c.args.notion c.args.game.now c.args.at.0 c.args.at.1.0 c.triggers_at-k-end.result room.2.0 c.triggers_at-k-end.ensures.count room.2.2 in
    let times_too = times_one c.args.notion c.args.game.now c.args.at.0 c.args.at.1.0 c.triggers_at-k-end.result room.3.0 c.triggers_at-k-end.ensures.count room.3.2 in
    let rows = one_more_of k room.2.0 (room.2.1 + 1) room.0 (omega (arith, times)) room.2.4 in
    let values = one_more_of k room.3.0 (room.3.1 + 0) room.1 (omega (arith, times_too)) room.3.4 in
    rw (c.trigger_at-trigger.ensures.side, c.trigger_at-trigger.ensures.set)
    (room.2.1, room.3.1, room.2.3, room.3.3, room_left (room.2.1 + 1) room.3.1 room.4 made rows (omega (arith, values)))

pub loop-k-init : goal.loop-k-init
loop-k-init c = (λ rows values r v. adds_as _ _ (adds_none c.args.part c.requires.before) (omega arith) (omega arith), λ k rows values low. absurd (omega arith))

pub loop-k-preserved : goal.loop-k-preserved
loop-k-preserved c =
    let more = λ (rows values : ℕ) (r : HasCount row_each c.args.game.now c.args.pairs.now c.args.at.0 (Some c.args.at.1) rows) (v : HasCount value_each c.args.game.now c.args.pairs.now c.args.at.0 (Some c.args.at.1) values).
    c.in_ok-made.ensures.size rows values (rw (c.trigger_at-trigger.ensures.side, c.trigger_at-trigger.ensures.set) r) (rw (c.trigger_at-trigger.ensures.side, c.trigger_at-trigger.ensures.set) v) in (
      λ rows values r v. adds_on _ _ (c.loop-k.invariant.0 rows values r v) (more rows values r v) (omega arith) (omega arith),
      λ j rows values low r v. elim (cases_lt j c.loop-k.k) [
        | inl below ↦
            let old = c.loop-k.invariant.1 j rows values below r v in
            (old.0, old.1, rows_kept old.2 (more rows values r v).extends)
        | inr above ↦
            let last : j ≡ c.loop-k.k = omega arith in
            let so_far = c.loop-k.invariant.0 rows values r v in
            rw last
            (c.trigger_at-trigger.result, c.trigger_at-trigger.ensures.trigger, rows_as c.in_ok-made.ensures.rows (sym so_far.more_rows) (sym so_far.more_values) (sym so_far.floor) (sym so_far.columns))
      ],
    )

pub returns-clause-size : goal.returns-clause-size
returns-clause-size c = λ rows values r v.
    let times = times_one c.args.notion c.args.game.now c.args.at.0 c.args.at.1.0 c.triggers_at-k-end.result r.0 c.triggers_at-k-end.ensures.count r.2 in
    let times_too = times_one c.args.notion c.args.game.now c.args.at.0 c.args.at.1.0 c.triggers_at-k-end.result v.0 c.triggers_at-k-end.ensures.count v.2 in
    let last : c.loop-k.k ≡ r.0 = omega (arith, times) in
    let last_too : c.loop-k.k ≡ v.0 = omega (arith, times_too) in
    adds_as rows values (c.loop-k.invariant.0 r.1 v.1 r.3 v.3) (cc (r.4, last)) (cc (v.4, last_too))

pub returns-clause-rows : goal.returns-clause-rows
returns-clause-rows c = λ times at.
    let same = times_one c.args.notion c.args.game.now c.args.at.0 c.args.at.1.0 c.triggers_at-k-end.result times c.triggers_at-k-end.ensures.count at in
    let last : c.loop-k.k ≡ times = omega (arith, same) in
    rw (← last) c.loop-k.invariant.1
