use Rattle.std.proofs.Common.{take}
use Rattle.text_pieces.specs.Piece.{Adds}
use Rattle.report_text.specs.Joined.{each_text}
use Rattle.answer_text.specs.VerdictText.{wide_name}
use Rattle.answer_text.proofs.verdicts.add_wide_names.Given as goal

abbrev pub invariant-loop-k : goal.invariant-loop-k
invariant-loop-k l = Adds l.initial.out.items l.out.items (each_text wide_name (take l.k l.blocks))
