use Rattle.connected_pairs.proofs.Prefixes.{relevant_parts}
use Rattle.connected_pairs.proofs.laws.relevance_goes_back.Goals as goal

pub returns : goal.returns
returns c = relevant_parts
