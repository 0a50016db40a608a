-- The blocks that were passed are true; nothing changes.
use Rattle.std.proofs.Common.{◌≡◌}
use Rattle.cert_check.specs.Truth.{AreBefore, IsTrueOf}
use Rattle.cert_check.proofs.blocks.check_blocks.Given as goal

abbrev pub invariant-loop-k : goal.invariant-loop-k
invariant-loop-k l = (l.blocks ≡ l.initial.blocks) × AreBefore (IsTrueOf l.game l.pairs) l.blocks l.k
