-- Of EFCE the k-th trigger is at the k-th action, which the set has.
use Rattle.std.proofs.Common.{arith}
use Rattle.sequences.specs.Number.{side_of}
use Rattle.connected_pairs.proofs.Indices.{is_at}
use Rattle.incentive_rows.proofs.rows.trigger_at.Goals as goal

pub number-requires : goal.number-requires
number-requires c =
    let at = c.args.at in
    let range = rw c.in-Efce.is at c.requires.in_range in
    rw c.seqs.ensures
    (is_at at.0 c.args.game.now (side_of at.0 c.args.pairs.now.seqs) (c.requires.whose.sides at.0) at.1 c.args.k range.1.0 range.1.1 (omega (arith, range.1.2, range.2)))
