-- The values gone over are copied.
use Rattle.std.proofs.Common.{◌≡◌, take}
use Rattle.plan_decompose.proofs.decompositions.copied.Given as goal

abbrev pub invariant-loop-k : goal.invariant-loop-k
invariant-loop-k l = l.copy.items ≡ take l.k l.values
