use Rattle.equilibrium_solutions.proofs.Recalled.{has_recall}
use Rattle.equilibrium_solutions.proofs.laws.numbered_games_have_recall.Goals as goal

pub returns : goal.returns
returns c = λ g p rules pairs of side. has_recall g rules p pairs of side
