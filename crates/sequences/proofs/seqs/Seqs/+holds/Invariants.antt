-- The own sequence of a sequence's last set has a smaller number.
use Rattle.sequences.proofs.seqs.Seqs.+holds.Given as goal

abbrev pub decreases-holds : goal.decreases-holds
decreases-holds l = l.seq
