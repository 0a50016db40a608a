-- What the bytes behind the first n give, and n, are what all the bytes give.
use Rattle.std.proofs.Common.{length, ◌-◌, ◌≡◌, ◌≤◌, ◌+◌, drop}
use Rattle.report_reader.specs.Reading.{slash_place}
use Rattle.report_reader.proofs.words.before_slash.Given as goal

abbrev pub invariant-loop-n : goal.invariant-loop-n
invariant-loop-n l = record {
  within : l.n ≤ length l.word;
  counted : slash_place (drop l.n l.word) + l.n ≡ slash_place l.word;
}

abbrev pub decreases-loop-n : goal.decreases-loop-n
decreases-loop-n l = length l.word - l.n
