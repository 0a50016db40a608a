use Rattle.text_pieces.specs.Piece.{Adds}
use Rattle.game_gen.specs.GameText.{below_text, chance_action}
use Rattle.game_gen.proofs.lines.add_chance_actions.Given as goal

abbrev pub invariant-loop-outcome : goal.invariant-loop-outcome
invariant-loop-outcome l = Adds l.initial.out.items l.out.items (below_text l.outcome (chance_action l.n))
