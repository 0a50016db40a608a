-- The plan of one who leaves is a plan, with as many entries as there are sets.
use Rattle.std.proofs.Common.{arith}
use Rattle.corr_game.specs.Game.{sets_of}
use Rattle.corr_game.proofs.SetCount.{count_at_most}
use Rattle.std.proofs.Common.{length}
use Rattle.plain_programs.proofs.Entries.{left_is_plan, own_is_plan}
use Rattle.plain_programs.proofs.deviations.deviated_pay.Goals as goal

pub left_for-requires-clause-few : goal.left_for-requires-clause-few
left_for-requires-clause-few c =
    let g = c.args.game.now in
    let rules = c.len.ensures.rules in
    let is = own_is_plan c.args.side g c.args.pair.now c.requires.entry in
    rw c.own_plan-plan.ensures
    (omega (arith, is.per_set, rules.at_most, count_at_most c.args.side 0 g.nodes (length (sets_of c.args.side g)) (rules.in_order c.args.side)))

pub paid_with-requires-2-clause-plan : goal.paid_with-requires-2-clause-plan
paid_with-requires-2-clause-plan c =
    let is = own_is_plan c.args.side c.args.game.now c.args.pair.now c.requires.entry in
    rw (c.in_ok-left.ensures, c.own_plan-plan.ensures)
    (left_is_plan c.args.side c.args.game.now c.args.trigger c.args.choice.now _ is c.requires.full)
