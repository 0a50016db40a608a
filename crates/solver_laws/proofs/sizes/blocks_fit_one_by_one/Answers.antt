use Rattle.solver_laws.proofs.SizesHeld.{fit_together, fit_turned}
use Rattle.solver_laws.proofs.sizes.blocks_fit_one_by_one.Goals as goal

pub returns-clause-together : goal.returns-clause-together
returns-clause-together c = fit_together

pub returns-clause-turned : goal.returns-clause-turned
returns-clause-turned c = fit_turned
