-- The refusal is that of the scales.
use Rattle.corr_run.specs.FirstRefusal.{IsOfFile}
use Rattle.corr_run.specs.Refusals.{IfRefused}
use Rattle.corr_run.proofs.Errors.{error_named}
use Rattle.corr_run.proofs.FirstRefusals.{scales_refused}
use Rattle.corr_run.proofs.prepare.scaled_game.Goals as goal

pub returns-in_err-game-clause-refused : goal.returns-in_err-game-clause-refused
returns-in_err-game-clause-refused c =
    let bytes = c.args.bytes.now in
    error_named _ _ (IfRefused (IsOfFile bytes)) c.from_residual-in_err-game.ensures.1
    (scales_refused bytes c.in_ok-raw.raw c.in_err-game.field-0.0 c.in_ok-raw.ensures.said c.in_err-game.ensures.err)
