-- The walk knows both players' sets, and each turn settles one.
use Rattle.plan_decompose.specs.Fair.{IsFair}
use Rattle.plan_decompose.specs.Walk.{IsWalk, unsettled}
use Rattle.plan_decompose.proofs.picks.pick.Given as goal

abbrev pub invariant-loop-at : goal.invariant-loop-at
invariant-loop-at l = record {
  walk : IsWalk l.game l.pairs l.walk;
  fair : IsFair l.pairs l.values l.walk;
}

abbrev pub decreases-loop-at : goal.decreases-loop-at
decreases-loop-at l = unsettled l.walk
