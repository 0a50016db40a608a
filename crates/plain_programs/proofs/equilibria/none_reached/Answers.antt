use Rattle.std.proofs.Common.{refl, arith}
use Rattle.equilibrium.specs.Distribution.{entries_of}
use Rattle.plain_programs.proofs.Fronts.{none_reached_anywhere}
use Rattle.plain_programs.proofs.equilibria.none_reached.Goals as goal

pub returns : goal.returns
returns c = (
  λ h. none_reached_anywhere c.args.side c.args.game.now (record { num = c.args.slack.num; den = c.args.slack.den })
      (entries_of c.args.list.now) (λ k low. c.loop-set.invariant k (omega arith)),
  λ none. refl,
)
