use Rattle.solver_laws.proofs.Steps.{bounded_steps, joined_steps, unit_steps}
use Rattle.solver_laws.proofs.bounds.steps_are_of_units_and_amounts.Goals as goal

pub returns-clause-units : goal.returns-clause-units
returns-clause-units c = unit_steps

pub returns-clause-joined : goal.returns-clause-joined
returns-clause-joined c = joined_steps

pub returns-clause-bounded : goal.returns-clause-bounded
returns-clause-bounded c = bounded_steps
