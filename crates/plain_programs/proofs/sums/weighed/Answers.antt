use Rattle.plain_programs.proofs.WeightedSums.{weighed_bound}
use Rattle.plain_programs.proofs.sums.weighed.Goals as goal

pub returns-clause-bound : goal.returns-clause-bound
returns-clause-bound c = weighed_bound c.product.result c.args.weight c.args.amount c.requires.high c.requires.amount_bound c.product.ensures
