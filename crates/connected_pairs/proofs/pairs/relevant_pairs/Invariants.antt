-- The rows gone over are listed.
use Rattle.std.proofs.Common.{◌*◌}
use Rattle.sequences.specs.Number.{count_of}
use Rattle.connected_pairs.specs.Connected.{IsListed}
use Rattle.connected_pairs.proofs.pairs.relevant_pairs.Given as goal

abbrev pub invariant-loop-one : goal.invariant-loop-one
invariant-loop-one l = IsListed l.seqs l.table (l.one * count_of l.seqs.two) l.listed.pairs.items l.listed.places.items
