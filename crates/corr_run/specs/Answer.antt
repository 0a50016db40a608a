-- What a run answers: a text and a status, by the command that the words mean.
use Rattle.std.specs.Prelude.{◌≡◌, ℕ, ◌+◌, ◌^◌, List}
use Rattle.command_words.specs.declared.commands.Command.{Command}
use Rattle.command_words.specs.declared.commands.Command.TheVariants.{Solve, Check, Gen, Work}
use Rattle.command_words.specs.Words.{Means, MeansNothing}
use Rattle.corr_run.specs.declared.status.Status.{Status}
use Rattle.corr_run.specs.declared.status.Status.TheVariants.{Usage}
use Rattle.corr_run.specs.CheckAnswer.{CheckAnswer}
use Rattle.corr_run.specs.GenAnswer.{GenAnswer}
use Rattle.corr_run.specs.Lines.{usage_line}
use Rattle.corr_run.specs.SolveAnswer.{SolveAnswer}
use Rattle.corr_run.specs.WorkAnswer.{WorkAnswer}

-- the text and the status that a command gives to what is left to read
abbrev pub CommandAnswer : Command → List ℕ → List ℕ → Status → Type 0
CommandAnswer (Solve notions) input text status = SolveAnswer notions input text status
CommandAnswer Check input text status = CheckAnswer input text status
CommandAnswer (Gen kind n seed) input text status = GenAnswer kind n seed text status
CommandAnswer (Work kind n seed notions) input text status = WorkAnswer kind n seed notions text status

-- the text and the status that the words and the input give
pub data Answer (words : List (List ℕ)) (input text : List ℕ) (status : Status) : Type 0 where
  no_command : MeansNothing words → text ≡ usage_line → status ≡ Usage → Answer words input text status
  carried_out : (asked : Command) → Means words asked → CommandAnswer asked input text status → Answer words input text status

-- how many bytes a command takes at most
abbrev pub most_taken : Command → ℕ
most_taken (Solve notions) = 2 ^ 22 + 1
most_taken Check = 2 ^ 30 + 1
most_taken (Gen kind n seed) = 0
most_taken (Work kind n seed notions) = 0

-- the words ask for nothing that has to be read
abbrev pub ReadsNothing : List (List ℕ) → Type 0
ReadsNothing words = (asked : Command) → Means words asked → most_taken asked ≡ 0
