-- What the words from here on give behind what is given so far, all of them give.
use Rattle.std.proofs.Common.{◌-◌, drop, length, map}
use Rattle.std.specs.String.{string_bytes}
use Rattle.command_words.specs.declared.options.Given.{Given}
use Rattle.command_words.specs.Options.{Give, none_given}
use Rattle.command_words.proofs.options.read_options.Given as goal

abbrev pub invariant-loop-at : goal.invariant-loop-at
invariant-loop-at l = record {
  leads : (after : Given) → Give l.given (drop l.at (map string_bytes l.words.items)) after → Give none_given (drop 1 (map string_bytes l.words.items)) after;
  stays : (after : Given) → Give none_given (drop 1 (map string_bytes l.words.items)) after → Give l.given (drop l.at (map string_bytes l.words.items)) after;
}

abbrev pub decreases-loop-at : goal.decreases-loop-at
decreases-loop-at l = length l.words.items - l.at
