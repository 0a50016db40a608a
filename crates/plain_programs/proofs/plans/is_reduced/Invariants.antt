-- The plan is reduced at each set so far.
use Rattle.std.proofs.Common.{ℕ, ◌<◌}
use Rattle.plain_programs.specs.ReducedAt.{IsReducedAt}
use Rattle.plain_programs.proofs.plans.is_reduced.Given as goal

abbrev pub invariant-loop-set : goal.invariant-loop-set
invariant-loop-set l = (k : ℕ) → k < l.set → IsReducedAt l.side l.game l.plan k
