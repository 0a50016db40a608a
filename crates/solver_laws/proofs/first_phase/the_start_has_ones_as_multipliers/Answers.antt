use Rattle.solver_laws.proofs.FirstPhase.{start_ones}
use Rattle.solver_laws.proofs.first_phase.the_start_has_ones_as_multipliers.Goals as goal

pub returns : goal.returns
returns c = start_ones
