-- The loop has added the texts of the numbers before this one.
use Rattle.text_pieces.proofs.Pieces.{Adds-nil}
use Rattle.game_gen.specs.GameText.{below_text, dilemma_outcome}
use Rattle.game_gen.proofs.Steps.{Adds-next}
use Rattle.game_gen.proofs.outcomes.add_dilemmas.Goals as goal

pub loop-outcome-init : goal.loop-outcome-init
unfolding below_text
loop-outcome-init c = Adds-nil c.args.out.now.items

pub loop-outcome-preserved : goal.loop-outcome-preserved
loop-outcome-preserved c = Adds-next (dilemma_outcome) c.loop-outcome.outcome c.loop-outcome.invariant c.in_ok-add_dilemma_outcome.ensures
