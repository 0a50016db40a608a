-- The places of the trigger's sets are as many as the room is for.
use Rattle.std.proofs.Common.{length, length-append, refl, ap, ◌∙◌, arith}
use Rattle.lp_form.specs.Program.{LpView}
use Rattle.incentive_rows.specs.Size.{row_each, value_each}
use Rattle.incentive_rows.proofs.Counts.{count_one}
use Rattle.incentive_rows.proofs.Parts.{joined_extends, joined_made, joined_row}
use Rattle.incentive_rows.proofs.rows.add_trigger.Goals as goal

pub block-requires-clause-apart : goal.block-requires-clause-apart
block-requires-clause-apart c =
    let t = c.args.trigger.now in
    let room = c.requires.room in
    let rows = count_one row_each c.args.game.now c.args.pairs.now t.side t.set _ room.0 c.in_ok-places.ensures.all_rows room.2 in
    let values = count_one value_each c.args.game.now c.args.pairs.now t.side t.set _ room.1 c.in_ok-places.ensures.all_values room.3 in
    record {
      behind_pairs = omega (arith, c.len.ensures.count);
      before_floor = omega (arith, room.4.for_values, values, c.len.ensures.count);
      behind_floor = omega arith;
      last = omega (arith, room.4.for_slacks, rows, c.rows.ensures.count, c.cols.ensures.count);
      few = omega (arith, room.4.few, c.cols.ensures.count);
    }

pub join-requires-clause-few_rows : goal.join-requires-clause-few_rows
join-requires-clause-few_rows c =
    let t = c.args.trigger.now in
    let room = c.requires.room in
    let rows = count_one row_each c.args.game.now c.args.pairs.now t.side t.set _ room.0 c.in_ok-places.ensures.all_rows room.2 in
    omega (arith, room.4.for_slacks, room.4.few, rows, c.in_ok-more.ensures.rows)

pub overflow_add-result : goal.overflow_add-result
overflow_add-result c =
    let t = c.args.trigger.now in
    let room = c.requires.room in
    let values = count_one value_each c.args.game.now c.args.pairs.now t.side t.set _ room.1 c.in_ok-places.ensures.all_values room.3 in
    omega (arith, room.4.for_values, room.4.for_slacks, room.4.few, values)

pub returns-clause-size : goal.returns-clause-size
returns-clause-size c = λ rows values r v.
    let t = c.args.trigger.now in
    let same_rows = count_one row_each c.args.game.now c.args.pairs.now t.side t.set _ rows c.in_ok-places.ensures.all_rows r in
    let same_values = count_one value_each c.args.game.now c.args.pairs.now t.side t.set _ values c.in_ok-places.ensures.all_values v in
    let both = c.in_ok-join.ensures.both in
    let count = ap (λ (lp : LpView). length lp.rows) both in
    record {
      more_rows = omega (arith, count, length-append c.args.part.lp.rows c.in_ok-more.more.rows, c.in_ok-more.ensures.rows, same_rows);
      more_values = omega (arith, same_values);
      floor = refl;
      columns = ap (λ (lp : LpView). lp.cols) both ∙ (c.in_ok-more.ensures.columns ∙ c.cols.ensures.count);
      made = rw both (joined_made c.args.part.lp c.in_ok-more.more c.requires.before c.in_ok-more.ensures.made);
      extends = rw both (joined_extends c.args.part.lp c.in_ok-more.more);
    }

pub returns-clause-rows : goal.returns-clause-rows
returns-clause-rows c =
    let both = c.in_ok-join.ensures.both in
    let count = ap (λ (lp : LpView). length lp.rows) both in
    let base = c.args.part.lp in
    let more = c.in_ok-more.more in
    let terms = rw (c.len.ensures.count, c.rows.ensures.count, c.cols.ensures.count) at c.in_ok-more.ensures.terms in
    record {
      sets = c.in_ok-places.places.sets.items;
      value_count = c.in_ok-places.places.values;
      row_count = c.in_ok-places.places.rows;
      placed = c.in_ok-places.ensures;
      inside = omega (arith, count, length-append base.rows more.rows, c.in_ok-more.ensures.rows);
      terms = λ r k low. rw (both, joined_row base more r) (terms r k);
    }
