use Rattle.text_laws.proofs.Drawing.{one_before, one_seed}
use Rattle.text_laws.proofs.draws.seeds_never_meet.Goals as goal

pub returns-clause-step : goal.returns-clause-step
returns-clause-step c = one_before

pub returns-clause-steps : goal.returns-clause-steps
returns-clause-steps c = one_seed
