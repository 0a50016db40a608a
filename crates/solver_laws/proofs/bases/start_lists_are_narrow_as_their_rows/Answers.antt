use Rattle.solver_laws.proofs.StartLists.{narrow_as_row}
use Rattle.solver_laws.proofs.bases.start_lists_are_narrow_as_their_rows.Goals as goal

pub returns : goal.returns
returns c = narrow_as_row
