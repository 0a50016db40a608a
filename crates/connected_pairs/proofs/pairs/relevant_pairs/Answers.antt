-- Before the first row nothing is listed.
use Rattle.std.proofs.Common.{◌≡◌, ◌*◌, arith}
use Rattle.sequences.specs.Number.{count_of}
use Rattle.connected_pairs.proofs.Listing.{none_listed}
use Rattle.connected_pairs.proofs.pairs.relevant_pairs.Goals as goal

pub loop-one-init : goal.loop-one-init
loop-one-init c =
    let none : 0 * count_of c.args.seqs.now.two ≡ 0 = omega arith in
    rw (none, c.new.ensures.items, c.new-2.ensures.items) (none_listed c.args.seqs.now c.args.table.now)
