-- A refusal of the file, or of the first program that doesn't fit.
use Rattle.command_words.specs.Selection.{selected}
use Rattle.corr_run.specs.FirstRefusal.{IsFirstRefusal, of_sizes}
use Rattle.corr_run.specs.Refusals.{IfRefused}
use Rattle.corr_run.proofs.Errors.{error_named}
use Rattle.corr_run.proofs.FirstRefusals.{refused_anyway}
use Rattle.corr_run.proofs.solving.fitting_game.Goals as goal

pub returns-in_err-ready-clause-refused : goal.returns-in_err-ready-clause-refused
returns-in_err-ready-clause-refused c =
    let notions = selected c.args.notions in
    let bytes = c.args.bytes.now in
    error_named _ _ (IfRefused (IsFirstRefusal notions bytes)) c.from_residual.ensures.1
    (refused_anyway notions bytes c.in_err-ready.field-0.0 c.in_err-ready.ensures.refused)

pub returns-in-Some-clause-refused : goal.returns-in-Some-clause-refused
returns-in-Some-clause-refused c = of_sizes c.in_ok-ready.ready.game c.in_ok-ready.ready.pairs c.in_ok-ready.ensures.ready c.in-Some.ensures
