-- The blocks so far are in order, and the text read so far is theirs.
use Rattle.std.proofs.Common.{◌≡◌, ◌-◌}
use Rattle.report_form.specs.Ranges.{InOrderFrom}
use Rattle.report_text.specs.Joined.{each_text}
use Rattle.report_text.specs.ReportText.{named_block_text}
use Rattle.report_reader.specs.Reading.{Reads}
use Rattle.report_reader.proofs.Pushed.{notion_behind}
use Rattle.report_reader.proofs.reports.read_blocks.Given as goal

abbrev pub invariant-loop-least : goal.invariant-loop-least
invariant-loop-least l = record {
  in_order : InOrderFrom 0 l.blocks;
  least : notion_behind 0 l.blocks ≡ l.least;
  same_input : l.pieces.bytes ≡ l.initial.pieces.bytes;
  text : Reads l.initial.pieces l.pieces (each_text named_block_text l.blocks);
}

abbrev pub decreases-loop-least : goal.decreases-loop-least
decreases-loop-least l = 3 - l.least
