-- What holds of a command holds of one that is the same.
use Rattle.std.proofs.Common.{◌≡◌, ℕ, List, [], arith, subst, sym}
use Rattle.std.proofs.KnownBytes.{Consumes-nil}
use Rattle.std.specs.declared.option.Option.{Option}
use Rattle.command_words.specs.declared.commands.Command.{Command}
use Rattle.corr_run.specs.declared.status.Status.{Status}
use Rattle.corr_run.specs.Answer.{CommandAnswer, most_taken}
use Rattle.corr_run.specs.Ending.{Ends}
use Rattle.corr_run.specs.Input.{TakesAtMost}

pub ends_as : (x y : Command) (left before after : Option (List ℕ)) (status : Status) → x ≡ y → Ends (CommandAnswer y) left before after status → Ends (CommandAnswer x) left before after status
ends_as x y left before after status e ends = subst (λ (asked : Command). Ends (CommandAnswer asked) left before after status) (sym e) ends

pub takes_as : (x y : Command) (old new : Option (List ℕ)) → x ≡ y → TakesAtMost (most_taken x) old new → TakesAtMost (most_taken y) old new
takes_as x y old new e takes = subst (λ (asked : Command). TakesAtMost (most_taken asked) old new) e takes

-- a source that is as it was gave nothing
pub takes_nothing : (most : ℕ) (left : Option (List ℕ)) → TakesAtMost most left left
takes_nothing most left = record { taken = []; within = omega arith; consumed = Consumes-nil left }
