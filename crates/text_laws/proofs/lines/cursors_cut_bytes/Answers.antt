use Rattle.text_laws.proofs.Places.{between_cursors, one_cursor}
use Rattle.text_laws.proofs.lines.cursors_cut_bytes.Goals as goal

pub returns-clause-one : goal.returns-clause-one
returns-clause-one c = one_cursor

pub returns-clause-between : goal.returns-clause-between
returns-clause-between c = between_cursors
