use Rattle.std.proofs.Common.{◌≡◌, ◌*◌}
use Rattle.text_pieces.specs.Piece.{Adds}
use Rattle.game_gen.specs.GameText.{below_text, public_outcome}
use Rattle.game_gen.proofs.outcomes.add_publics.Given as goal

abbrev pub invariant-loop-outcome : goal.invariant-loop-outcome
invariant-loop-outcome l = Adds l.initial.out.items l.out.items (below_text l.outcome (public_outcome l.seed)) × (l.draws.seed ≡ l.seed) × (l.draws.drawn ≡ l.outcome * 8)
