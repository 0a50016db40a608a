-- The pairs of the row gone over are listed.
use Rattle.std.proofs.Common.{◌+◌, ◌*◌}
use Rattle.sequences.specs.Number.{count_of}
use Rattle.connected_pairs.specs.Connected.{IsListed}
use Rattle.connected_pairs.proofs.pairs.add_row.Given as goal

abbrev pub invariant-loop-two : goal.invariant-loop-two
invariant-loop-two l = IsListed l.seqs l.table (l.one * count_of l.seqs.two + l.two) l.listed.pairs.items l.listed.places.items
