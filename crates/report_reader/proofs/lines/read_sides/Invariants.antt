-- The text read so far is that of the sides so far.
use Rattle.std.proofs.Common.{◌≡◌, length, All}
use Rattle.report_form.specs.Ranges.{IsSide}
use Rattle.report_text.specs.Joined.{each_text}
use Rattle.report_text.specs.PartText.{side_text}
use Rattle.report_reader.specs.Reading.{Reads}
use Rattle.report_reader.proofs.lines.read_sides.Given as goal

abbrev pub invariant-loop : goal.invariant-loop
invariant-loop l = record {
  sides : All (IsSide l.corners) l.sides;
  counted : length l.sides ≡ l.counter;
  same_input : l.pieces.bytes ≡ l.initial.pieces.bytes;
  text : Reads l.initial.pieces l.pieces (each_text side_text l.sides);
}
