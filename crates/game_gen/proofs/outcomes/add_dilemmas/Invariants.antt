use Rattle.text_pieces.specs.Piece.{Adds}
use Rattle.game_gen.specs.GameText.{below_text, dilemma_outcome}
use Rattle.game_gen.proofs.outcomes.add_dilemmas.Given as goal

abbrev pub invariant-loop-outcome : goal.invariant-loop-outcome
invariant-loop-outcome l = Adds l.initial.out.items l.out.items (below_text l.outcome (dilemma_outcome))
