-- The numbers of the path are beyond the limits.
use Rattle.std.proofs.Common.{refl}
use Rattle.game_scale.proofs.paths.Path.to.Goals as goal

pub returns-then-not-is_within-clause-none : goal.returns-then-not-is_within-clause-none
returns-then-not-is_within-clause-none c = λ e.
    (record { chance = c.args.way.now.chance; one = c.plus-one.result; two = c.plus-two.result }, record { chance = refl; one = c.plus-one.ensures; two = c.plus-two.ensures }, λ within. let yes = c.is_within.ensures.limits.1 within in cc (yes, c.if-not-is_within.true))
