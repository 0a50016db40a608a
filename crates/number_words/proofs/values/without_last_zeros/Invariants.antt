-- Only zeros stand behind the end.
use Rattle.std.proofs.Common.{◌≡◌, length, ◌≤◌, take}
use Rattle.number_words.specs.Value.{without_last_zeros}
use Rattle.number_words.proofs.values.without_last_zeros.Given as goal

abbrev pub invariant-loop-end : goal.invariant-loop-end
invariant-loop-end l = record {
  within : l.end ≤ length l.digits;
  zeros : without_last_zeros (take l.end l.digits) ≡ without_last_zeros l.digits;
}

abbrev pub decreases-loop-end : goal.decreases-loop-end
decreases-loop-end l = l.end
