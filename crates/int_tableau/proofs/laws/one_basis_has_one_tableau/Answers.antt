use Rattle.int_tableau.proofs.OneBasis.{one_tableau}
use Rattle.int_tableau.proofs.laws.one_basis_has_one_tableau.Goals as goal

pub returns : goal.returns
returns c = one_tableau
