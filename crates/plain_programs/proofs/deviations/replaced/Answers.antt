use Rattle.std.proofs.Common.{true, refl, arith}
use Rattle.equilibrium.specs.FullChoice.{replaced}
use Rattle.plain_programs.proofs.Grafting.{entry_chosen}
use Rattle.plain_programs.proofs.deviations.replaced.Goals as goal

pub loop-set-preserved : goal.loop-set-preserved
loop-set-preserved c =
    let whole = replaced c.args.choice.now c.args.plan.now in
    rw c.in_ok-push.ensures.items
    (entry_chosen (λ set. true) c.args.choice.now c.loop-set.set c.args.plan.now c.loop-set.entries.items c.at.result.now whole
    (omega arith) c.loop-set.invariant refl c.at.ensures.item)
