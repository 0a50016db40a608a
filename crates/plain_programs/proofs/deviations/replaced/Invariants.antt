-- The entries so far, and those that are left, are the full choice everywhere.
use Rattle.std.proofs.Common.{◌≡◌, ◌++◌, true, drop}
use Rattle.equilibrium.specs.FullChoice.{chosen_anew, replaced}
use Rattle.plain_programs.proofs.deviations.replaced.Given as goal

abbrev pub invariant-loop-set : goal.invariant-loop-set
invariant-loop-set l =
    l.entries.items ++ chosen_anew (λ set. true) l.choice l.set (drop l.set l.plan) ≡ replaced l.choice l.plan
