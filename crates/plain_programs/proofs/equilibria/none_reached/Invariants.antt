-- At the sets so far leaving gains at most the slack.
use Rattle.std.proofs.Common.{ℕ, ◌<◌, []}
use Rattle.equilibrium.specs.declared.triggers.Trigger.TheVariants.{Reached}
use Rattle.equilibrium.specs.Distribution.{entries_of}
use Rattle.plain_programs.specs.Fronts.{NoneGains}
use Rattle.plain_programs.proofs.equilibria.none_reached.Given as goal

abbrev pub invariant-loop-set : goal.invariant-loop-set
invariant-loop-set l = (k : ℕ) → k < l.set
    → NoneGains l.side l.game (record { num = l.slack.num; den = l.slack.den }) (entries_of l.list) (Reached (record { 0 = k })) []
