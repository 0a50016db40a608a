-- What the bytes behind the first n give, and n, are what all the bytes give.
use Rattle.std.proofs.Common.{length, ◌-◌, ◌≡◌, ◌≤◌, ◌+◌, drop}
use Rattle.efg_token.specs.Front.{gap}
use Rattle.efg_token.proofs.cutting.gap.Given as goal

abbrev pub invariant-loop-n : goal.invariant-loop-n
invariant-loop-n l = record {
  within : l.n ≤ length l.bytes;
  counted : gap (drop l.n l.bytes) + l.n ≡ gap l.bytes;
}

abbrev pub decreases-loop-n : goal.decreases-loop-n
decreases-loop-n l = length l.bytes - l.n
