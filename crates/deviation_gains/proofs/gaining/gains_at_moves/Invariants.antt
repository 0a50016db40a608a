-- no full choice gains at the actions gone over
use Rattle.std.proofs.Common.{ℕ, ◌<◌}
use Rattle.equilibrium.specs.declared.triggers.Trigger.TheVariants.{Told}
use Rattle.equilibrium.specs.Distribution.{entries_of}
use Rattle.deviation_gains.specs.Gains.{AreGiven, NoneGains}
use Rattle.deviation_gains.proofs.gaining.gains_at_moves.Given as goal

abbrev pub invariant-loop-action : goal.invariant-loop-action
invariant-loop-action l =
    AreGiven l.game l.pairs l.list → (action : ℕ) → action < l.action → NoneGains l.side l.game (entries_of l.list) (Told l.set action)
