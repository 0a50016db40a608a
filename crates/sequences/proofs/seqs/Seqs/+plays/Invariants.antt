-- The own sequence of a sequence's last set has a smaller number.
use Rattle.sequences.proofs.seqs.Seqs.+plays.Given as goal

abbrev pub decreases-plays : goal.decreases-plays
decreases-plays l = l.seq
