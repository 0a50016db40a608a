-- At the sets so far leaving gains at most the slack whatever is recommended.
use Rattle.std.proofs.Common.{◌≡◌, ℕ, ◌<◌, [], Some, slice_get}
use Rattle.corr_game.specs.declared.nodes.SetInfo.{SetInfo}
use Rattle.corr_game.specs.Game.{sets_of}
use Rattle.equilibrium.specs.declared.triggers.Trigger.TheVariants.{Told}
use Rattle.equilibrium.specs.Distribution.{entries_of}
use Rattle.plain_programs.specs.Fronts.{NoneGains}
use Rattle.plain_programs.proofs.equilibria.none_told.Given as goal

abbrev pub invariant-loop-set : goal.invariant-loop-set
invariant-loop-set l = (k action : ℕ) (info : SetInfo) → k < l.set → slice_get (sets_of l.side l.game) k ≡ Some info
    → action < info.actions
    → NoneGains l.side l.game (record { num = l.slack.num; den = l.slack.den }) (entries_of l.list) (Told (record { 0 = k }) action) []
