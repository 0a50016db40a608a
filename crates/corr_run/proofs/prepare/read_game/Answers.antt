-- The refusal is that of the lines.
use Rattle.corr_run.specs.FirstRefusal.{IsOfFile}
use Rattle.corr_run.specs.Refusals.{IfRefused}
use Rattle.corr_run.proofs.Errors.{error_named}
use Rattle.corr_run.proofs.FirstRefusals.{lines_refused, not_read}
use Rattle.corr_run.proofs.prepare.read_game.Goals as goal

pub returns-in_err-file-clause-refused : goal.returns-in_err-file-clause-refused
returns-in_err-file-clause-refused c =
    let bytes = c.args.bytes.now in
    error_named _ _ (IfRefused (IsOfFile bytes)) c.from_residual.ensures.1 (not_read bytes c.in_err-file.field-0.0 c.in_err-file.ensures)

pub returns-in_err-raw-clause-refused : goal.returns-in_err-raw-clause-refused
returns-in_err-raw-clause-refused c =
    let bytes = c.args.bytes.now in
    error_named _ _ (IfRefused (IsOfFile bytes)) c.from_residual-in_err-raw.ensures.1
    (lines_refused bytes c.in_ok-file.file c.in_err-raw.field-0.0 c.in_ok-file.ensures c.in_err-raw.ensures.refused)
