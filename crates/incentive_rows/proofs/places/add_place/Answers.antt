-- A set that the trigger has gets the next value and the next rows.
use Rattle.std.proofs.Common.{refl, arith}
use Rattle.incentive_rows.proofs.Counts.{few_actions_of, few_sets, rows_low, values_low}
use Rattle.incentive_rows.proofs.Placing.{placed, unplaced}
use Rattle.incentive_rows.proofs.places.add_place.Goals as goal

pub overflow_add-places : goal.overflow_add-places
overflow_add-places c =
    let low = values_low c.args.game.now c.args.pairs.now c.args.at.0 c.args.top c.args.at.1.0 c.args.places.now.values c.requires.before.all_values in
    omega (arith, low, few_sets c.args.at.0 c.args.game.now c.set.ensures.rules)

pub overflow_add-places-then-is_set_of : goal.overflow_add-places-then-is_set_of
overflow_add-places-then-is_set_of c =
    let low = rows_low c.args.game.now c.args.pairs.now c.args.at.0 c.args.top c.set.ensures.rules c.args.at.1.0 c.args.places.now.rows c.requires.before.all_rows in
    let few = few_actions_of c.args.at.0 c.args.game.now c.set.ensures.rules c.args.at.1.0 c.set.result.now c.set.ensures.item in
    omega (arith, low, few, few_sets c.args.at.0 c.args.game.now c.set.ensures.rules)

pub returns-in_ok-push : goal.returns-in_ok-push
returns-in_ok-push c =
    let says = rw c.seqs.ensures at c.is_set_of.ensures in
    rw c.in_ok-push.ensures.items
    (placed c.args.game.now c.args.pairs.now c.args.at.0 c.args.top c.args.at.1.0 c.args.places.now.sets.items c.args.places.now.values c.args.places.now.rows c.set.result.now _ c.requires.before c.set.ensures.item (says.0 c.if-is_set_of.true) refl refl)

pub returns-in_ok-push-2 : goal.returns-in_ok-push-2
returns-in_ok-push-2 c =
    let says = rw c.seqs.ensures at c.is_set_of.ensures in
    rw c.in_ok-push-2.ensures.items
    (unplaced c.args.game.now c.args.pairs.now c.args.at.0 c.args.top c.args.at.1.0 c.args.places.now.sets.items c.args.places.now.values c.args.places.now.rows c.set.result.now c.requires.before c.set.ensures.item (λ h. absurd (cc (says.1 h, c.if-is_set_of.false))))
