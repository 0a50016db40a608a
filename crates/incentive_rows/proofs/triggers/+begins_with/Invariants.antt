-- The own sequence of a sequence's last set has a smaller number.
use Rattle.incentive_rows.proofs.triggers.+begins_with.Given as goal

abbrev pub decreases-begins_with : goal.decreases-begins_with
decreases-begins_with l = l.seq
