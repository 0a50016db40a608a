use Rattle.bland_simplex.proofs.ArtificialSum.{phase_is_sum}
use Rattle.bland_simplex.proofs.laws.phase_is_the_artificial_sum.Goals as goal

pub returns : goal.returns
returns c = phase_is_sum
