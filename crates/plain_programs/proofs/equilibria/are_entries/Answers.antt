use Rattle.std.proofs.Common.{refl, arith}
use Rattle.plain_programs.proofs.Entries.{one_entry_more}
use Rattle.plain_programs.proofs.equilibria.are_entries.Goals as goal

pub loop-k-preserved : goal.loop-k-preserved
loop-k-preserved c = one_entry_more c.args.game.now c.args.list.now c.loop-k.k c.at.result.now c.loop-k.invariant c.at.ensures.item
    (c.if-not-is_entry.ensures.0 refl)

pub returns : goal.returns
returns c = (λ h k d low. c.loop-k.invariant k d (omega arith), λ all. refl)
