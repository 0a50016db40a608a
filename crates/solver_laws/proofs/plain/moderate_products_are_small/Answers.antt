use Rattle.solver_laws.proofs.ModeratePrograms.{small_products}
use Rattle.solver_laws.proofs.plain.moderate_products_are_small.Goals as goal

pub returns : goal.returns
returns c = small_products
