-- Both parts are fresh.
use Rattle.plan_decompose.proofs.Going.{fresh_fair}
use Rattle.plan_decompose.proofs.walks.Walk.start.Goals as goal

pub returns-clause-fair : goal.returns-clause-fair
returns-clause-fair c = λ values s. fresh_fair c.args.pairs.now values _ s c.in_ok-start.ensures.fresh c.in_ok-start-2.ensures.fresh
