use Rattle.solver_laws.proofs.FirstPhase.{basic_inside, one_count, one_width}
use Rattle.solver_laws.proofs.first_phase.open_tableaus_have_one_shape.Goals as goal

pub returns-clause-rows : goal.returns-clause-rows
returns-clause-rows c = one_count

pub returns-clause-columns : goal.returns-clause-columns
returns-clause-columns c = one_width

pub returns-clause-basis : goal.returns-clause-basis
returns-clause-basis c = basic_inside
