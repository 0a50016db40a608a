use Rattle.equilibrium_solutions.proofs.Departing.{is_decision}
use Rattle.equilibrium_solutions.proofs.decisions.departures_are_decisions.Goals as goal

pub returns : goal.returns
returns c = λ g p trigger own x rules pairs of. is_decision g rules p pairs of trigger own x
