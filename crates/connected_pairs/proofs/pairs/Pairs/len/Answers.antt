-- There are at most 2^24 pairs.
use Rattle.std.proofs.Common.{arith}
use Rattle.connected_pairs.proofs.Listing.{few_pairs}
use Rattle.connected_pairs.proofs.pairs.Pairs.len.Goals as goal

pub overflow_cast-result : goal.overflow_cast-result
overflow_cast-result c = omega (arith, few_pairs _ c.self.invariant.0, c.self.inside.listed.pairs.ok.0)
