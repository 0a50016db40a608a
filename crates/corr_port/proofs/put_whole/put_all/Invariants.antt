-- What was put so far is the front of the piece.
use Rattle.std.proofs.Common.{◌≡◌, ◌-◌, ◌≤◌, length, take}
use Rattle.std.specs.Io.KnownBytes.{Appends}
use Rattle.corr_port.proofs.put_whole.put_all.Given as goal

abbrev pub decreases-loop-done : goal.decreases-loop-done
decreases-loop-done g l = length l.piece - l.done

abbrev pub invariant-loop-done : goal.invariant-loop-done
invariant-loop-done g l = record {
  within : l.done ≤ length l.piece;
  added : Appends (g.K.Sink.held l.fn.out) (g.K.Sink.held l.out) (take l.done l.piece);
  start : l.done ≡ 0 → l.out ≡ l.fn.out;
  count : g.K.Sink.faults l.fn.out ≤ g.K.Sink.faults l.out;
}
