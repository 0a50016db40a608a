-- The last sets of two sequences have an entry in the table.
use Rattle.std.proofs.Common.{length, sym}
use Rattle.sequences.proofs.Holding.{set_in}
use Rattle.connected_pairs.proofs.Listing.{cell}
use Rattle.connected_pairs.proofs.pairs.relevant.Goals as goal

pub bounds-table-a : goal.bounds-table-a
bounds-table-a c =
    let s = c.args.seqs.now in
    let one = set_in s.one c.in-Some-Some.ensures.rules c.args.one c.in-Some-Some.a (sym c.in-Some-Some.ensures.taken) in
    let two = set_in s.two c.in-Some-Some.ensures'.rules c.args.two c.in-Some-Some.b (sym c.in-Some-Some.ensures'.taken) in
    cell c.in-Some-Some.a.0.0 c.in-Some-Some.b.0.0 (length s.two.places) (length s.one.places) c.args.width _ one two c.requires.wide c.requires.all_sets
