-- A plan has an entry for each set, and so for each place of the sequences; the weight is the least value that is
-- played, which is positive, so what is left of a narrow value is narrow.
use Rattle.std.proofs.Common.{◌∙◌, sym, pos, slice_index_or}
use Rattle.corr_num.proofs.PrintedTerms.{narrow_returned}
use Rattle.plan_decompose.proofs.Joining.{is_there}
use Rattle.plan_decompose.proofs.Taking.{left_narrow}
use Rattle.plan_decompose.proofs.Whole.{fewer_left, rows_left, some_played, weight_positive}
use Rattle.corr_game.specs.declared.sides.Side.TheVariants.{One, Two}
use Rattle.plan_decompose.proofs.entries.take_entry.Goals as goal

pub least_place-requires-clause-one_per_set : goal.least_place-requires-clause-one_per_set
least_place-requires-clause-one_per_set c = c.in_ok-one.ensures.plan_one.per_set ∙ sym (c.requires.whose.sides One).per_set

pub least_place-requires-clause-two_per_set : goal.least_place-requires-clause-two_per_set
least_place-requires-clause-two_per_set c = c.in_ok-one.ensures.plan_two.per_set ∙ sym (c.requires.whose.sides Two).per_set

pub take_off-requires-clause-one_per_set : goal.take_off-requires-clause-one_per_set
take_off-requires-clause-one_per_set c = c.in_ok-one.ensures.plan_one.per_set ∙ sym (c.requires.whose.sides One).per_set

pub take_off-requires-clause-two_per_set : goal.take_off-requires-clause-two_per_set
take_off-requires-clause-two_per_set c = c.in_ok-one.ensures.plan_two.per_set ∙ sym (c.requires.whose.sides Two).per_set

pub returns-clause-entry : goal.returns-clause-entry
returns-clause-entry c =
    let least = rw c.unwrap-least.ensures at c.least_place.ensures.some in
    let narrow = c.requires.narrow c.unwrap-least.result (pos 0) least.in_range in
    let plans = c.in_ok-one.ensures in
    rw (narrow_returned (slice_index_or c.args.values.now c.unwrap-least.result (pos 0)) narrow) (record {
      plan_one = plans.plan_one;
      plan_two = plans.plan_two;
      reduced_one = plans.reduced_one;
      reduced_two = plans.reduced_two;
      positive = weight_positive c.args.pairs.now c.requires.rules c.args.values.now c.in_ok-one.one c.in_ok-one.two c.unwrap-least.result least plans.positive;
      narrow = narrow;
    })

pub returns-clause-narrow : goal.returns-clause-narrow
returns-clause-narrow c =
    let least = rw c.unwrap-least.ensures at c.least_place.ensures.some in
    let value = slice_index_or c.args.values.now c.unwrap-least.result (pos 0) in
    let back = narrow_returned value (c.requires.narrow c.unwrap-least.result (pos 0) least.in_range) in
    let positive = weight_positive c.args.pairs.now c.requires.rules c.args.values.now c.in_ok-one.one c.in_ok-one.two c.unwrap-least.result least c.in_ok-one.ensures.positive in
    left_narrow c.args.pairs.now c.in_ok-one.one c.in_ok-one.two value c.args.values.now c.take_off.new.values (rw back at c.take_off.ensures) c.requires.per_pair c.take_off.auto.values c.requires.narrow positive least.least

pub returns-clause-fewer : goal.returns-clause-fewer
returns-clause-fewer c =
    let least = rw c.unwrap-least.ensures at c.least_place.ensures.some in
    let value = slice_index_or c.args.values.now c.unwrap-least.result (pos 0) in
    let back = narrow_returned value (c.requires.narrow c.unwrap-least.result (pos 0) least.in_range) in
    let positive = weight_positive c.args.pairs.now c.requires.rules c.args.values.now c.in_ok-one.one c.in_ok-one.two c.unwrap-least.result least c.in_ok-one.ensures.positive in
    fewer_left c.args.pairs.now c.args.values.now c.take_off.new.values c.in_ok-one.one c.in_ok-one.two c.unwrap-least.result (rw back at c.take_off.ensures) c.requires.per_pair c.take_off.auto.values least positive

pub returns-clause-rows : goal.returns-clause-rows
returns-clause-rows c =
    let least = rw c.unwrap-least.ensures at c.least_place.ensures.some in
    let value = slice_index_or c.args.values.now c.unwrap-least.result (pos 0) in
    let back = narrow_returned value (c.requires.narrow c.unwrap-least.result (pos 0) least.in_range) in
    let plans = c.in_ok-one.ensures in
    rows_left c.args.game.now c.args.pairs.now c.requires.whose c.requires.rules c.args.values.now c.take_off.new.values c.in_ok-one.one c.in_ok-one.two value c.requires.solution.rows (rw back at c.take_off.ensures) (c.take_off.auto.values ∙ c.requires.per_pair)
    plans.plan_one plans.plan_two plans.reduced_one plans.reduced_two least.least

pub unwrap-least-requires : goal.unwrap-least-requires
unwrap-least-requires c = is_there c.least_place.result c.least_place.ensures.none (some_played c.args.pairs.now c.requires.rules c.in_ok-one.one c.in_ok-one.two)
