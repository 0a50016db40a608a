-- The columns so far ascend, and the text read so far is theirs.
use Rattle.std.proofs.Common.{◌≡◌, ◌^◌, ◌-◌}
use Rattle.report_form.specs.Ranges.{AscendFrom}
use Rattle.report_text.specs.Joined.{each_text}
use Rattle.report_text.specs.PartText.{count_text}
use Rattle.report_reader.specs.Reading.{Reads}
use Rattle.report_reader.proofs.Pushed.{least_behind}
use Rattle.report_reader.proofs.lists.read_basis.Given as goal

abbrev pub invariant-loop-least : goal.invariant-loop-least
invariant-loop-least l = record {
  ascends : AscendFrom 0 l.basis;
  least : least_behind 0 l.basis ≡ l.least;
  same_input : l.pieces.bytes ≡ l.initial.pieces.bytes;
  text : Reads l.initial.pieces l.pieces (each_text count_text l.basis);
}

abbrev pub decreases-loop-least : goal.decreases-loop-least
decreases-loop-least l = 2 ^ 32 - l.least
