-- The loop has added the outcomes before this one, with eight draws each.
use Rattle.std.proofs.Common.{◌∙◌, arith}
use Rattle.text_pieces.proofs.Pieces.{Adds-nil}
use Rattle.game_gen.specs.GameText.{below_text, public_outcome}
use Rattle.game_gen.proofs.Steps.{Adds-next}
use Rattle.game_gen.proofs.outcomes.add_publics.Goals as goal

pub loop-outcome-init : goal.loop-outcome-init
unfolding below_text
loop-outcome-init c = (Adds-nil c.args.out.now.items, c.new-draws.ensures.seed, c.new-draws.ensures.none_drawn)

pub add_public_outcome-requires-clause-in_step : goal.add_public_outcome-requires-clause-in_step
add_public_outcome-requires-clause-in_step c = c.loop-outcome.invariant.2

pub loop-outcome-preserved : goal.loop-outcome-preserved
loop-outcome-preserved c =
    let text = rw c.loop-outcome.invariant.1 at c.in_ok-add_public_outcome.ensures.text in (
      Adds-next (public_outcome c.args.seed) c.loop-outcome.outcome c.loop-outcome.invariant.0 text,
      c.in_ok-add_public_outcome.ensures.same_seed ∙ c.loop-outcome.invariant.1,
      omega (arith, c.in_ok-add_public_outcome.ensures.eight_more, c.loop-outcome.invariant.2),
    )
