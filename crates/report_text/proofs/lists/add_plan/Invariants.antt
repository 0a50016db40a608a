use Rattle.std.proofs.Common.{take}
use Rattle.text_pieces.specs.Piece.{Adds}
use Rattle.report_text.specs.Joined.{each_text}
use Rattle.report_text.specs.PartText.{action_text}
use Rattle.report_text.proofs.lists.add_plan.Given as goal

abbrev pub invariant-loop-entry : goal.invariant-loop-entry
invariant-loop-entry l = Adds l.initial.out.items l.out.items (each_text action_text (take l.entry-index l.plan))
