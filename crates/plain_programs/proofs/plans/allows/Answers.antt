use Rattle.std.proofs.Common.{sym, ◌∙◌}
use Rattle.plain_programs.proofs.Leading.{own_set}
use Rattle.plain_programs.proofs.plans.allows.Goals as goal

pub names-requires : goal.names-requires
names-requires c =
    c.requires.covered c.in-Choice.set.0
    (rw c.in-Choice.is (own_set c.args.side c.in-Choice.mover c.in-Choice.set c.in-Choice.kids
    (sym c.same_side.ensures ∙ c.if-same_side.true)))
