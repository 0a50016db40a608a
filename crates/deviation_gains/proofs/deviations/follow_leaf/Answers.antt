-- The leaf's amount as often as the pair weighs, where both plans lead there past the trigger.
use Rattle.std.proofs.Common.{rules, ◌≡◌, ◌+ℤ◌, ◌*ℤ◌, ap, ◌∙◌, to_z, of_z, arith}
use Rattle.std.specs.Int.{w128}
use Rattle.exact_algebra.proofs.RingLaws.{*ℤ_comm}
use Rattle.corr_game.specs.Node.{amount_of}
use Rattle.corr_game.specs.Plan.{plan_of}
use Rattle.connected_pairs.specs.Connected.{other}
use Rattle.corr_num.proofs.PrintedTerms.{narrow_returned, returned}
use Rattle.deviation_gains.specs.Leaving.{FollowsTo}
use Rattle.deviation_gains.proofs.LeftSteps.{told_false, told_true}
use Rattle.deviation_gains.proofs.GainFollowed.{adds_nothing}
use Rattle.deviation_gains.proofs.deviations.follow_leaf.Goals as goal

pub returns-then-follows-clause-value : goal.returns-then-follows-clause-value
returns-then-follows-clause-value c = λ passes same.
    let t = c.args.before in
    let a = c.amount_at.result in
    let w = c.args.paid.0.now.weight in
    let there = c.follows.ensures.exact.0 c.if-follows.true in
    let bound = rw (returned t (omega (arith, c.requires.room)), returned a (omega (arith, c.amount_at.ensures.small)))
    at c.plus_product.ensures.bound in
    let value = rw (
      returned t (omega (arith, c.requires.room)),
      returned a (omega (arith, c.amount_at.ensures.small)),
      narrow_returned w c.requires.drawn.1,
    ) at c.plus_product.ensures.value in
    let result : to_z w128 (of_z w128 c.plus_product.result) ≡ t +ℤ a *ℤ w =
    returned c.plus_product.result (omega (arith, bound, c.requires.room, c.amount_at.ensures.small)) ∙ value
    ∙ ap (λ z. t +ℤ z) (*ℤ_comm w a) in
    rw (told_true passes same there, ← c.amount_at.ensures.value) result

pub returns-else-follows-clause-value : goal.returns-else-follows-clause-value
returns-else-follows-clause-value c = λ passes same.
    let away : FollowsTo c.args.pairs.now.seqs c.args.at.0.now.side c.args.at.0.now.set c.args.at.0.now.seq c.args.at.1
    (plan_of c.args.at.0.now.side c.args.paid.0.now.one c.args.paid.0.now.two)
    (plan_of (other c.args.at.0.now.side) c.args.paid.0.now.one c.args.paid.0.now.two) → ⊥ = search rules in
    rw (told_false passes same away)
    (returned c.args.before (omega (arith, c.requires.room))
    ∙ adds_nothing c.args.before (amount_of c.args.at.0.now.side c.args.paid.1.now))
