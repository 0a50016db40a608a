-- One pair more is of reduced plans, or the rule fails.
use Rattle.std.proofs.Common.{inl, inr, get_or, refl, arith}
use Rattle.std.proofs.lemmas.Bool.{cases_lt}
use Rattle.std.proofs.lemmas.Option.{slice_get-get_or}
use Rattle.deviation_gains.specs.Planned.{AreReduced}
use Rattle.deviation_gains.proofs.Sizes.{at_same}
use Rattle.deviation_gains.proofs.planned.all_planned.Goals as goal

pub loop-k-preserved : goal.loop-k-preserved
loop-k-preserved c = λ j pair low e. elim (cases_lt j c.loop-k.k) [
  | inl before ↦ c.loop-k.invariant j pair before e
  | inr at ↦ at_same (AreReduced c.args.game.now) c.args.list.now j c.loop-k.k pair c.at.result.now (omega arith) e c.at.ensures.item (c.if-not-is_planned.ensures.0 refl)
]

pub returns-clause-planned : goal.returns-clause-planned
returns-clause-planned c = λ _ k d inside.
    let both = c.loop-k.invariant k (get_or c.args.list.now k d) (omega (arith, inside, c.loop-k-test.false, c.len-k-end.ensures.count)) (slice_get-get_or c.args.list.now k d inside) in
    (both.0.is_plan, both.1.is_plan)

pub returns-clause-reduced : goal.returns-clause-reduced
returns-clause-reduced c = (
  λ _ k d inside. c.loop-k.invariant k (get_or c.args.list.now k d) (omega (arith, inside, c.loop-k-test.false, c.len-k-end.ensures.count)) (slice_get-get_or c.args.list.now k d inside),
  λ _. refl,
)
