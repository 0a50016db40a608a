-- What the bytes behind the first n give, and n, are what all the bytes give.
use Rattle.std.proofs.Common.{length, ◌-◌, ◌≡◌, ◌≤◌, ◌+◌, drop}
use Rattle.efg_token.specs.Front.{word_length}
use Rattle.efg_token.proofs.cutting.word_length.Given as goal

abbrev pub invariant-loop-n : goal.invariant-loop-n
invariant-loop-n l = record {
  within : l.n ≤ length l.bytes;
  counted : word_length (drop l.n l.bytes) + l.n ≡ word_length l.bytes;
}

abbrev pub decreases-loop-n : goal.decreases-loop-n
decreases-loop-n l = length l.bytes - l.n
