use Rattle.int_tableau.proofs.StartPivots.{same_basis, same_denom, same_entries, start_again}
use Rattle.int_tableau.proofs.laws.pivoting_at_an_artificial_one_changes_nothing.Goals as goal

pub returns-clause-start : goal.returns-clause-start
returns-clause-start c = start_again

pub returns-clause-denom : goal.returns-clause-denom
returns-clause-denom c = same_denom

pub returns-clause-basis : goal.returns-clause-basis
returns-clause-basis c = same_basis

pub returns-clause-entries : goal.returns-clause-entries
returns-clause-entries c = same_entries
