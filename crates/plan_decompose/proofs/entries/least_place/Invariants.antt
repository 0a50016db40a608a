-- The place found so far is the least of the pairs gone over that both plans play.
use Rattle.plan_decompose.proofs.Least.{IsLeastBelow}
use Rattle.plan_decompose.proofs.entries.least_place.Given as goal

abbrev pub invariant-loop-k : goal.invariant-loop-k
invariant-loop-k l = IsLeastBelow l.pairs l.one l.two l.values l.k l.least
