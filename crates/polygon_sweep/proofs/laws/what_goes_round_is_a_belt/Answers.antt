use Rattle.std.proofs.Common.{length}
use Rattle.polygon_sweep.specs.Round.{AreApart}
use Rattle.polygon_sweep.proofs.RoundBelt.{round_belt}
use Rattle.polygon_sweep.proofs.RoundCorners.{round_some, round_stands}
use Rattle.polygon_sweep.proofs.laws.what_goes_round_is_a_belt.Goals as goal

pub returns-clause-some : goal.returns-clause-some
returns-clause-some c = λ corners sides round. round_some round

pub returns-clause-stand : goal.returns-clause-stand
returns-clause-stand c = λ corners sides round. round_stands round

pub returns-clause-belt : goal.returns-clause-belt
returns-clause-belt c = λ corners sides round. round_belt (AreApart corners) (length corners) sides round
