use Rattle.std.proofs.Common.{take}
use Rattle.text_pieces.specs.Piece.{Adds}
use Rattle.report_text.specs.Joined.{each_text}
use Rattle.report_text.specs.PartText.{count_text}
use Rattle.report_text.proofs.lists.add_columns.Given as goal

abbrev pub invariant-loop-k : goal.invariant-loop-k
invariant-loop-k l = Adds l.initial.out.items l.out.items (each_text count_text (take l.k l.columns))
