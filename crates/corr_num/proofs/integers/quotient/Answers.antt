-- What the code divides is the quotient toward zero, and an exact quotient is that.
use Rattle.std.proofs.Common.{◌∙◌}
use Rattle.std.specs.Int.{w128}
use Rattle.std.proofs.lemmas.Int.{quot_is, quot_fits}
use Rattle.corr_num.proofs.ExactQuotients.{quotient_exact}
use Rattle.corr_num.proofs.integers.quotient.Goals as goal

pub returns-clause-exact : goal.returns-clause-exact
returns-clause-exact c q e =
    quot_is w128 c.args.n c.args.d c.ranges.n c.ranges.d (quot_fits w128 c.args.n c.args.d c.ranges.n c.requires) ∙ quotient_exact c.args.n c.args.d q c.requires e
