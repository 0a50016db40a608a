use Rattle.std.proofs.Common.{refl, arith}
use Rattle.equilibrium.specs.Distribution.{entries_of}
use Rattle.plain_programs.proofs.Fronts.{none_told_anywhere}
use Rattle.plain_programs.proofs.equilibria.none_told.Goals as goal

pub returns : goal.returns
returns c = (
  λ h. none_told_anywhere c.args.side c.args.game.now (record { num = c.args.slack.num; den = c.args.slack.den })
      (entries_of c.args.list.now) (λ k action info low there named. c.loop-set.invariant k action info (omega arith) there named),
  λ none. refl,
)
