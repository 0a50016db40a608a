-- The other player's part is the one that was looked at.
use Rattle.corr_game.specs.declared.sides.Side.TheVariants.{One, Two}
use Rattle.connected_pairs.specs.Connected.{touches}
use Rattle.plan_decompose.proofs.Joining.{found_open}
use Rattle.plan_decompose.proofs.walks.Walk.near.Goals as goal

pub returns-in-One-clause-none : goal.returns-in-One-clause-none
returns-in-One-clause-none c =
    let found = rw (c.in-One.is, c.deref.ensures.value) at c.only_joined.ensures.none in
    rw c.in-One.is found

pub returns-in-Two-clause-none : goal.returns-in-Two-clause-none
returns-in-Two-clause-none c =
    let found = rw (c.in-Two.is, c.deref-in-Two.ensures.value) at c.only_joined-in-Two.ensures.none in
    rw c.in-Two.is found

pub returns-in-Two-clause-some : goal.returns-in-Two-clause-some
returns-in-Two-clause-some c =
    let found = rw (c.in-Two.is, c.deref-in-Two.ensures.value) at c.only_joined-in-Two.ensures.some in
    rw c.in-Two.is (found_open c.args.self.now One c.only_joined-in-Two.result (touches c.args.pairs.now Two c.args.first.set.0) found)
