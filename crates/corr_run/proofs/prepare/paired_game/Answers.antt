-- The refusal is that of recall.
use Rattle.corr_run.specs.FirstRefusal.{IsOfFile}
use Rattle.corr_run.specs.Refusals.{IfRefused}
use Rattle.corr_run.proofs.Errors.{error_named}
use Rattle.corr_run.proofs.FirstRefusals.{recall_refused}
use Rattle.corr_run.proofs.prepare.paired_game.Goals as goal

pub returns-in_err-recalled-clause-refused : goal.returns-in_err-recalled-clause-refused
returns-in_err-recalled-clause-refused c =
    let bytes = c.args.bytes.now in
    error_named _ _ (IfRefused (IsOfFile bytes)) c.from_residual-in_err-recalled.ensures.1
    (recall_refused bytes c.in_ok-game.game c.in_err-recalled.field-0.0 c.in_ok-game.ensures.scaled c.in_err-recalled.ensures.refused)

pub returns-clause-recalled : goal.returns-clause-recalled
returns-clause-recalled c = record {
  say = c.in_ok-game.ensures.scaled;
  rules = rw (← c.game.view_is) c.game.invariant;
  recall = c.in_ok-recalled.ensures.recalled.perfect;
  pairs = c.in_ok-pairs.ensures;
  rules_of_pairs = c.len.ensures.rules;
}
