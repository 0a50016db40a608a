-- What `gen` answers: a text and a status, one constructor for each case.
use Rattle.std.specs.Prelude.{◌≡◌, ℕ, ◌<◌, ◌≤◌, List}
use Rattle.game_gen.specs.declared.kinds.Kind.{Kind}
use Rattle.game_gen.specs.GameText.{game_text, greatest}
use Rattle.report_form.specs.declared.refusals.Refusal.TheVariants.{TooLarge}
use Rattle.report_text.specs.RefusalText.{refusal_text}
use Rattle.corr_run.specs.declared.status.Status.{Status}
use Rattle.corr_run.specs.declared.status.Status.TheVariants.{Written, Refused}

-- the text and the status that `gen` gives: the game's file where its size is within the greatest of its kind
pub data GenAnswer (kind : Kind) (n seed : ℕ) (text : List ℕ) (status : Status) : Type 0 where
  written : n ≤ greatest kind → text ≡ game_text kind n seed → status ≡ Written → GenAnswer kind n seed text status
  too_large : greatest kind < n → text ≡ refusal_text (TooLarge (greatest kind)) → status ≡ Refused → GenAnswer kind n seed text status
