use Rattle.std.proofs.Common.{◌≡◌, ◌*◌}
use Rattle.text_pieces.specs.Piece.{Adds}
use Rattle.game_gen.specs.GameText.{below_text, chain_move}
use Rattle.game_gen.proofs.outcomes.add_chain_moves.Given as goal

abbrev pub invariant-loop-index : goal.invariant-loop-index
invariant-loop-index l = Adds l.initial.out.items l.out.items (below_text l.index (chain_move l.initial.draws.seed)) × (l.draws.seed ≡ l.initial.draws.seed) × (l.draws.drawn ≡ l.index * 2)
