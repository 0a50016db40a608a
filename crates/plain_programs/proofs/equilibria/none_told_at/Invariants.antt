-- Told one of the actions so far, leaving gains at most the slack.
use Rattle.std.proofs.Common.{ℕ, ◌<◌, []}
use Rattle.equilibrium.specs.declared.triggers.Trigger.TheVariants.{Told}
use Rattle.equilibrium.specs.Distribution.{entries_of}
use Rattle.plain_programs.specs.Fronts.{NoneGains}
use Rattle.plain_programs.proofs.equilibria.none_told_at.Given as goal

abbrev pub invariant-loop-action : goal.invariant-loop-action
invariant-loop-action l = (a : ℕ) → a < l.action
    → NoneGains l.side l.game (record { num = l.slack.num; den = l.slack.den }) (entries_of l.list) (Told l.set a) []
