-- No walk pays more than 2^40.
use Rattle.std.proofs.Common.{◌≤◌, ◌^◌, unsigned_abs, arith}
use Rattle.corr_game.specs.declared.sides.Side.TheVariants.{One, Two}
use Rattle.corr_game.proofs.WalkSteps.{walk-bound}
use Rattle.corr_num.proofs.PrintedTerms.{returned}
use Rattle.plain_programs.proofs.sums.paid.Goals as goal

pub returns-in-One-clause-bound : goal.returns-in-One-clause-bound
returns-in-One-clause-bound c =
    let rules = c.len.ensures.rules in
    let bound = walk-bound One c.args.game.now rules c.args.one.now c.args.two.now 0 rules.has_root in
    let small : unsigned_abs c.walk_pay-paid.result.one ≤ 2 ^ 40 = rw c.walk_pay-paid.ensures.first bound in
    rw (returned c.walk_pay-paid.result.one (omega arith)) small

pub returns-in-Two-clause-bound : goal.returns-in-Two-clause-bound
returns-in-Two-clause-bound c =
    let rules = c.len.ensures.rules in
    let bound = walk-bound Two c.args.game.now rules c.args.one.now c.args.two.now 0 rules.has_root in
    let small : unsigned_abs c.walk_pay-paid.result.two ≤ 2 ^ 40 = rw c.walk_pay-paid.ensures.second bound in
    rw (returned c.walk_pay-paid.result.two (omega arith)) small
