-- A set's own sequence is one of the player's.
use Rattle.sequences.proofs.Holding.{own_in}
use Rattle.sequences.proofs.seqs.Seqs.under.Goals as goal

pub holds-requires : goal.holds-requires
holds-requires c = own_in _ c.own.ensures.rules c.args.set.0 c.own.result c.own.ensures.number
