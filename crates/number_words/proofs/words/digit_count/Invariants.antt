-- The digits among the bytes behind the first n, and n, are those at the front of all the bytes.
use Rattle.std.proofs.Common.{length, ◌-◌, ◌≡◌, ◌≤◌, ◌+◌, drop}
use Rattle.number_words.specs.Words.{digit_count}
use Rattle.number_words.proofs.words.digit_count.Given as goal

abbrev pub invariant-loop-n : goal.invariant-loop-n
invariant-loop-n l = record {
  within : l.n ≤ length l.word;
  counted : digit_count (drop l.n l.word) + l.n ≡ digit_count l.word;
}

abbrev pub decreases-loop-n : goal.decreases-loop-n
decreases-loop-n l = length l.word - l.n
