use Rattle.std.proofs.Common.{take}
use Rattle.text_pieces.specs.Piece.{Adds}
use Rattle.report_text.specs.Joined.{each_text}
use Rattle.answer_text.specs.SummaryText.{corner_summary}
use Rattle.answer_text.proofs.summaries.add_corners.Given as goal

abbrev pub invariant-loop-k : goal.invariant-loop-k
invariant-loop-k l = Adds l.initial.out.items l.out.items (each_text corner_summary (take l.k l.corners))
