-- The text read so far is that of the numbers so far.
use Rattle.std.proofs.Common.{◌≡◌, length, ◌-◌, All}
use Rattle.corr_num.specs.Narrow.{Narrow}
use Rattle.report_text.specs.Joined.{each_text}
use Rattle.report_text.specs.PartText.{int_text}
use Rattle.report_reader.specs.Reading.{Reads}
use Rattle.report_reader.proofs.lists.read_numbers.Given as goal

abbrev pub invariant-loop-numbers : goal.invariant-loop-numbers
invariant-loop-numbers l = record {
  narrow : All Narrow l.numbers;
  same_input : l.pieces.bytes ≡ l.initial.pieces.bytes;
  text : Reads l.initial.pieces l.pieces (each_text int_text l.numbers);
}

-- what is left of the input grows shorter
abbrev pub decreases-loop-numbers : goal.decreases-loop-numbers
decreases-loop-numbers l = length l.initial.pieces.bytes - l.pieces.at
