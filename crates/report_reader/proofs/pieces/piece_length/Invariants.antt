-- What the bytes behind the first n give, and n, are what all the bytes give.
use Rattle.std.proofs.Common.{length, ◌-◌, ◌≡◌, ◌≤◌, ◌+◌, drop}
use Rattle.report_reader.specs.Reading.{run_length}
use Rattle.report_reader.proofs.pieces.piece_length.Given as goal

abbrev pub invariant-loop-n : goal.invariant-loop-n
invariant-loop-n l = record {
  within : l.n ≤ length l.bytes;
  counted : run_length (drop l.n l.bytes) + l.n ≡ run_length l.bytes;
}

abbrev pub decreases-loop-n : goal.decreases-loop-n
decreases-loop-n l = length l.bytes - l.n
