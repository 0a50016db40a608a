use Rattle.std.proofs.Common.{take}
use Rattle.text_pieces.specs.Piece.{Adds}
use Rattle.report_text.specs.Joined.{each_text}
use Rattle.answer_text.specs.SummaryText.{block_summary}
use Rattle.answer_text.proofs.summaries.add_blocks.Given as goal

abbrev pub invariant-loop-k : goal.invariant-loop-k
invariant-loop-k l = Adds l.initial.out.items l.out.items (each_text block_summary (take l.k l.blocks))
