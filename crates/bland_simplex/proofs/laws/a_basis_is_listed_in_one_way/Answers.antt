use Rattle.bland_simplex.proofs.Listing.{listed_alike}
use Rattle.bland_simplex.proofs.laws.a_basis_is_listed_in_one_way.Goals as goal

pub returns : goal.returns
returns c = listed_alike
