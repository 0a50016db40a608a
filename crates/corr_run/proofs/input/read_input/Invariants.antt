use Rattle.std.proofs.Common.{◌+◌, ◌-◌, ◌≤◌, vec_len}
use Rattle.std.specs.Io.KnownBytes.{Consumes}
use Rattle.corr_run.proofs.input.read_input.Given as goal

-- how much room is left up to one byte over the limit
abbrev pub decreases-loop-bytes : goal.decreases-loop-bytes
decreases-loop-bytes g l = l.limit + 1 - vec_len l.bytes

abbrev pub invariant-loop-bytes : goal.invariant-loop-bytes
invariant-loop-bytes g l = record {
  read : Consumes (g.S.Source.left l.fn.src) (g.S.Source.left l.src) l.bytes.items;
  size : vec_len l.bytes ≤ l.limit + 1;
  count : g.S.Source.faults l.fn.src ≤ g.S.Source.faults l.src;
}
