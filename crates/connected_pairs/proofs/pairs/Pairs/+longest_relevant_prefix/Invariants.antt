-- The own sequence of a sequence's last set has a smaller number.
use Rattle.connected_pairs.proofs.pairs.Pairs.+longest_relevant_prefix.Given as goal

abbrev pub decreases-longest_relevant_prefix : goal.decreases-longest_relevant_prefix
decreases-longest_relevant_prefix l = l.seq
