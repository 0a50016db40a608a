use Rattle.int_tableau.proofs.Starting.{start_reached}
use Rattle.int_tableau.proofs.laws.starts_are_reached.Goals as goal

pub returns : goal.returns
returns c = start_reached
