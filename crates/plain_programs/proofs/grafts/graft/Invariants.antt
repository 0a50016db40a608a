-- The entries so far, and those that are left, are the graft.
use Rattle.std.proofs.Common.{◌≡◌, ◌++◌, drop}
use Rattle.equilibrium.specs.FullChoice.{chosen_anew, graft, is_under}
use Rattle.plain_programs.proofs.grafts.graft.Given as goal

abbrev pub invariant-loop-set : goal.invariant-loop-set
invariant-loop-set l =
    l.entries.items ++ chosen_anew (is_under l.side l.game l.above.0) l.choice l.set
    (drop l.set l.plan) ≡ graft l.side l.game l.above.0 l.choice l.plan
