use Rattle.int_tableau.proofs.Narrowness.{small_starts_narrow}
use Rattle.int_tableau.proofs.laws.small_programs_start_narrow.Goals as goal

pub returns : goal.returns
returns c = small_starts_narrow
