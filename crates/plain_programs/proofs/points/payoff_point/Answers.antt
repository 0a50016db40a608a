use Rattle.std.proofs.Common.{◌∙◌, arith}
use Rattle.corr_num.proofs.PrintedTerms.{returned}
use Rattle.equilibrium.specs.Distribution.{entries_of}
use Rattle.plain_programs.proofs.ReachedPoints.{reached_by}
use Rattle.plain_programs.proofs.points.payoff_point.Goals as goal

pub returns-clause-reached : goal.returns-clause-reached
returns-clause-reached c =
    let one = returned c.following.result (omega (arith, c.following.ensures.bound)) in
    let two = returned c.following-2.result (omega (arith, c.following-2.ensures.bound)) in
    let all = returned c.total.result (omega (arith, c.total.ensures.bound)) in
    reached_by c.args.game.now c.len.ensures.rules (entries_of c.args.list.now) _ _ _ (one ∙ c.following.ensures.value)
    (two ∙ c.following-2.ensures.value) (all ∙ c.total.ensures.value)
