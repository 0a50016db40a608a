-- The loop has added the moves before this one, with two draws each.
use Rattle.std.proofs.Common.{◌∙◌, refl, arith}
use Rattle.text_pieces.proofs.Pieces.{Adds-nil}
use Rattle.game_gen.specs.GameText.{below_text, chain_move}
use Rattle.game_gen.proofs.Steps.{Adds-next}
use Rattle.game_gen.proofs.outcomes.add_chain_moves.Goals as goal

pub loop-index-init : goal.loop-index-init
unfolding below_text
loop-index-init c = (Adds-nil c.args.out.now.items, refl, c.requires.none_drawn)

pub add_chain_move-requires-clause-in_step : goal.add_chain_move-requires-clause-in_step
add_chain_move-requires-clause-in_step c = c.loop-index.invariant.2

pub loop-index-preserved : goal.loop-index-preserved
loop-index-preserved c =
    let text = rw c.loop-index.invariant.1 at c.in_ok-add_chain_move.ensures.text in (
      Adds-next (chain_move c.args.draws.now.seed) c.loop-index.index c.loop-index.invariant.0 text,
      c.in_ok-add_chain_move.ensures.same_seed ∙ c.loop-index.invariant.1,
      omega (arith, c.in_ok-add_chain_move.ensures.two_more, c.loop-index.invariant.2),
    )
