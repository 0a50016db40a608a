-- The set has this action.
use Rattle.sequences.specs.Number.{side_of}
use Rattle.connected_pairs.proofs.Indices.{is_at}
use Rattle.deviation_gains.proofs.gaining.seq_with.Goals as goal

pub number-seq-requires : goal.number-seq-requires
number-seq-requires c =
    rw c.seqs-2.ensures
    (is_at c.args.at.0 c.args.game.now (side_of c.args.at.0 c.args.pairs.now.seqs) (c.requires.whose.sides c.args.at.0) c.args.at.1 c.args.action c.requires.known.0 c.requires.known.1 c.requires.known.2)
