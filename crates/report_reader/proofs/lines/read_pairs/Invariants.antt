-- The text read so far is that of the pairs so far.
use Rattle.std.proofs.Common.{◌≡◌, length, All}
use Rattle.report_form.specs.Ranges.{IsPair}
use Rattle.report_text.specs.Joined.{each_text}
use Rattle.report_text.specs.PartText.{pair_text}
use Rattle.report_reader.specs.Reading.{Reads}
use Rattle.report_reader.proofs.lines.read_pairs.Given as goal

abbrev pub invariant-loop : goal.invariant-loop
invariant-loop l = record {
  pairs : All IsPair l.pairs;
  counted : length l.pairs ≡ l.counter;
  same_input : l.pieces.bytes ≡ l.initial.pieces.bytes;
  text : Reads l.initial.pieces l.pieces (each_text pair_text l.pairs);
}
