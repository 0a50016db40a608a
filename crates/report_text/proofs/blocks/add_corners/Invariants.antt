use Rattle.std.proofs.Common.{take}
use Rattle.text_pieces.specs.Piece.{Adds}
use Rattle.report_text.specs.Joined.{texts_from}
use Rattle.report_text.specs.ReportText.{corner_text}
use Rattle.report_text.proofs.blocks.add_corners.Given as goal

abbrev pub invariant-loop-k : goal.invariant-loop-k
invariant-loop-k l = Adds l.initial.out.items l.out.items (texts_from corner_text 0 (take l.k l.corners))
