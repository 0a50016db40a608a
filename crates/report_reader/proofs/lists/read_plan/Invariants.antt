-- The text read so far is that of the actions so far.
use Rattle.std.proofs.Common.{◌≡◌, length, ◌-◌, All}
use Rattle.report_form.specs.Ranges.{IsAction}
use Rattle.report_text.specs.Joined.{each_text}
use Rattle.report_text.specs.PartText.{action_text}
use Rattle.report_reader.specs.Reading.{Reads}
use Rattle.report_reader.proofs.lists.read_plan.Given as goal

abbrev pub invariant-loop-entries : goal.invariant-loop-entries
invariant-loop-entries l = record {
  actions : All IsAction l.entries.items;
  same_input : l.pieces.bytes ≡ l.initial.pieces.bytes;
  text : Reads l.initial.pieces l.pieces (each_text action_text l.entries.items);
}

-- what is left of the input grows shorter
abbrev pub decreases-loop-entries : goal.decreases-loop-entries
decreases-loop-entries l = length l.initial.pieces.bytes - l.pieces.at
