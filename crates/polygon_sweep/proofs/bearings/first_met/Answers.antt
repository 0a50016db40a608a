-- A bound that comes before the other direction is turned to sooner; one that doesn't isn't left behind there.
use Rattle.polygon_sweep.proofs.Angles.{itself, not_before, turns_sooner}
use Rattle.polygon_sweep.proofs.bearings.first_met.Goals as goal

pub returns-then-is_before-clause-turns : goal.returns-then-is_before-clause-turns
returns-then-is_before-clause-turns c = λ dir ahead turns. turns_sooner dir c.in-Some.bound c.args.other (rw c.in-Some.is at ahead) turns (c.is_before.ensures.0 c.if-is_before.true)

pub returns-clause-not_behind : goal.returns-clause-not_behind
returns-clause-not_behind c = rw c.in-Some.is (not_before c.in-Some.bound.a c.in-Some.bound.b c.args.other.a c.args.other.b (λ left. let true_too = c.is_before.ensures.1 left in absurd (cc)))

pub returns-clause-sooner : goal.returns-clause-sooner
returns-clause-sooner c = itself c.args.other.a c.args.other.b
