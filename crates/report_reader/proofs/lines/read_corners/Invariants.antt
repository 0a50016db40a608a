-- The text read so far is that of the corners so far.
use Rattle.std.proofs.Common.{◌≡◌, length, All}
use Rattle.report_form.specs.Ranges.{IsCorner}
use Rattle.report_text.specs.Joined.{texts_from}
use Rattle.report_text.specs.ReportText.{corner_text}
use Rattle.report_reader.specs.Reading.{Reads}
use Rattle.report_reader.proofs.lines.read_corners.Given as goal

abbrev pub invariant-loop-position : goal.invariant-loop-position
invariant-loop-position l = record {
  corners : All IsCorner l.corners;
  counted : length l.corners ≡ l.position;
  same_input : l.pieces.bytes ≡ l.initial.pieces.bytes;
  text : Reads l.initial.pieces l.pieces (texts_from corner_text 0 l.corners);
}
