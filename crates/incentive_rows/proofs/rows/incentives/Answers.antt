-- The program's columns have room for the rows and values of both players.
use Rattle.corr_game.specs.declared.sides.Side.TheVariants.{One, Two}
use Rattle.incentive_rows.proofs.Parts.{for_as, for_kept}
use Rattle.std.proofs.Common.{length, refl, sym, ap, ◌∙◌, arith}
use Rattle.lp_form.specs.Program.{LpView}
use Rattle.incentive_rows.proofs.Counts.{incentives_fit, incentives_one}
use Rattle.incentive_rows.proofs.rows.incentives.Goals as goal

pub overflow_cast-floor : goal.overflow_cast-floor
overflow_cast-floor c =
    let fit = incentives_fit c.args.notion c.args.game.now c.args.pairs.now c.requires.size c.incentive_size-size.result.rows c.incentive_size-size.result.values c.incentive_size-size.ensures.count in
    omega (arith, fit.1)

pub overflow_add-floor : goal.overflow_add-floor
overflow_add-floor c =
    let fit = incentives_fit c.args.notion c.args.game.now c.args.pairs.now c.requires.size c.incentive_size-size.result.rows c.incentive_size-size.result.values c.incentive_size-size.ensures.count in
    omega (arith, fit.1, c.len.ensures.count)

pub overflow_add-floor-2 : goal.overflow_add-floor-2
overflow_add-floor-2 c =
    let fit = incentives_fit c.args.notion c.args.game.now c.args.pairs.now c.requires.size c.incentive_size-size.result.rows c.incentive_size-size.result.values c.incentive_size-size.ensures.count in
    omega (arith, fit.1, c.len.ensures.count)

pub overflow_cast-size : goal.overflow_cast-size
overflow_cast-size c =
    let fit = incentives_fit c.args.notion c.args.game.now c.args.pairs.now c.requires.size c.incentive_size-size.result.rows c.incentive_size-size.result.values c.incentive_size-size.ensures.count in
    omega (arith, fit.1)

pub overflow_add-floor-3 : goal.overflow_add-floor-3
overflow_add-floor-3 c =
    let fit = incentives_fit c.args.notion c.args.game.now c.args.pairs.now c.requires.size c.incentive_size-size.result.rows c.incentive_size-size.result.values c.incentive_size-size.ensures.count in
    omega (arith, fit.1, c.len.ensures.count)

pub new-requires-clause-few_columns : goal.new-requires-clause-few_columns
new-requires-clause-few_columns c =
    let fit = incentives_fit c.args.notion c.args.game.now c.args.pairs.now c.requires.size c.incentive_size-size.result.rows c.incentive_size-size.result.values c.incentive_size-size.ensures.count in
    omega (arith, fit.1, c.len.ensures.count)

pub add_player-requires-clause-room : goal.add_player-requires-clause-room
add_player-requires-clause-room c =
    let fit = incentives_fit c.args.notion c.args.game.now c.args.pairs.now c.requires.size c.incentive_size-size.result.rows c.incentive_size-size.result.values c.incentive_size-size.ensures.count in
    let both = c.incentive_size-size.ensures.count in
    let none = ap (λ (lp : LpView). length lp.rows) c.in_ok-new.ensures.all_0 in
    let all = ap (λ (lp : LpView). lp.cols) c.in_ok-new.ensures.all_0 in (
      both.rows_one,
      both.values_one,
      both.of_one,
      both.values_of_one,
      record {
        for_values = omega (arith, both.all_values, c.len.ensures.count);
        for_slacks = omega (arith, both.all_rows, none, all);
        few = omega (arith, fit.1, all, c.len.ensures.count);
      },
    )

pub add_player-requires-2-clause-room : goal.add_player-requires-2-clause-room
add_player-requires-2-clause-room c =
    let fit = incentives_fit c.args.notion c.args.game.now c.args.pairs.now c.requires.size c.incentive_size-size.result.rows c.incentive_size-size.result.values c.incentive_size-size.ensures.count in
    let both = c.incentive_size-size.ensures.count in
    let none = ap (λ (lp : LpView). length lp.rows) c.in_ok-new.ensures.all_0 in
    let all = ap (λ (lp : LpView). lp.cols) c.in_ok-new.ensures.all_0 in
    let one = c.in_ok-part.ensures.size both.rows_one both.values_one both.of_one both.values_of_one in (
      both.rows_two,
      both.values_two,
      both.of_two,
      both.values_of_two,
      record {
        for_values = omega (arith, both.all_values, c.len.ensures.count, one.more_values, one.floor);
        for_slacks = omega (arith, both.all_rows, none, all, one.more_rows, one.floor, one.columns);
        few = omega (arith, fit.1, all, c.len.ensures.count, one.columns);
      },
    )

pub returns-clause-rows_of_one : goal.returns-clause-rows_of_one
returns-clause-rows_of_one c = λ rows values h.
    let both = c.incentive_size-size.ensures.count in
    let same = incentives_one c.args.notion c.args.game.now c.args.pairs.now c.incentive_size-size.result.rows c.incentive_size-size.result.values rows values both h in
    let none = ap (λ (lp : LpView). length lp.rows) c.in_ok-new.ensures.all_0 in
    let one = c.in_ok-part.ensures.size both.rows_one both.values_one both.of_one both.values_of_one in
    let two = c.in_ok-part-2.ensures.size both.rows_two both.values_two both.of_two both.values_of_two in
    let kept = for_kept c.args.notion c.args.game.now c.args.pairs.now One _ _ _ _ c.in_ok-part.part.lp c.in_ok-part-2.part.lp c.in_ok-part.ensures.rows two.extends in
    for_as c.args.notion c.args.game.now c.args.pairs.now One _ _ _ _ 0 0 _ _ c.in_ok-part-2.part.lp kept (sym none) refl (omega (arith, same.1, c.len.ensures.count)) (two.columns ∙ one.columns)

pub returns-clause-rows_of_two : goal.returns-clause-rows_of_two
returns-clause-rows_of_two c = λ rows values h.
    let both = c.incentive_size-size.ensures.count in
    let same = incentives_one c.args.notion c.args.game.now c.args.pairs.now c.incentive_size-size.result.rows c.incentive_size-size.result.values rows values both h in
    let none = ap (λ (lp : LpView). length lp.rows) c.in_ok-new.ensures.all_0 in
    let one = c.in_ok-part.ensures.size h.rows_one h.values_one h.of_one h.values_of_one in
    let two = c.in_ok-part-2.ensures.size h.rows_two h.values_two h.of_two h.values_of_two in
    for_as c.args.notion c.args.game.now c.args.pairs.now Two _ _ _ _ h.rows_one h.values_one _ _ c.in_ok-part-2.part.lp c.in_ok-part-2.ensures.rows (omega (arith, one.more_rows, none)) (omega (arith, one.more_values)) (omega (arith, same.1, c.len.ensures.count, one.floor)) two.columns
