use Rattle.bland_simplex.proofs.Lowering.{ready_lowered}
use Rattle.bland_simplex.proofs.laws.ready_tableaus_are_lowered.Goals as goal

pub returns : goal.returns
returns c = ready_lowered
