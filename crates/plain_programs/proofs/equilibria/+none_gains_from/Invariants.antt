-- With one of the actions so far at the next set, leaving gains at most the slack; each call knows one action more.
use Rattle.std.proofs.Common.{ℕ, ◌-◌, ◌<◌, [], ◌∷◌, ◌++◌, length}
use Rattle.corr_game.specs.Game.{sets_of}
use Rattle.equilibrium.specs.Distribution.{entries_of}
use Rattle.plain_programs.specs.Fronts.{NoneGains}
use Rattle.plain_programs.proofs.equilibria.+none_gains_from.Given as goal

abbrev pub decreases-none_gains_from : goal.decreases-none_gains_from
decreases-none_gains_from l = length (sets_of l.side l.game.now) - length l.front.items

abbrev pub invariant-loop-action : goal.invariant-loop-action
invariant-loop-action l = (a : ℕ) → a < l.action
    → NoneGains l.side l.game (record { num = l.slack.num; den = l.slack.den }) (entries_of l.list) l.trigger (l.front.items ++ a ∷ [])
