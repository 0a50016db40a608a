use Rattle.text_laws.proofs.Fronts.{fronts_join, fronts_within}
use Rattle.text_laws.proofs.ports.fronts_behind_whole_pieces_are_fronts.Goals as goal

pub returns-clause-joined : goal.returns-clause-joined
returns-clause-joined c = fronts_join

pub returns-clause-longest : goal.returns-clause-longest
returns-clause-longest c = fronts_within
