use Rattle.equilibrium_solutions.proofs.Triggers.{has_rows, is_trigger}
use Rattle.equilibrium_solutions.proofs.decisions.triggers_have_rows.Goals as goal

pub returns-clause-rows : goal.returns-clause-rows
returns-clause-rows c = λ notion g p side left pairs of is. has_rows g p pairs of side notion left is

pub returns-clause-back : goal.returns-clause-back
returns-clause-back c = λ notion g p side trigger pairs of is. is_trigger g p pairs of side notion trigger is
