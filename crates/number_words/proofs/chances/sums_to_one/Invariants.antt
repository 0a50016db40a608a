-- The parts so far sum to the total, and none of them is over 1.
use Rattle.std.proofs.Common.{◌≡◌, ◌≤◌, ◌+◌, drop, take}
use Rattle.std.specs.Prelude.{All}
use Rattle.number_words.specs.Number.{IsPart}
use Rattle.number_words.proofs.Parts.{parts_over}
use Rattle.number_words.proofs.chances.sums_to_one.Given as goal

abbrev pub invariant-loop-prob : goal.invariant-loop-prob
invariant-loop-prob l = record {
  within : l.total ≤ l.common;
  sum : parts_over l.common (drop l.prob-index l.probs) + l.total ≡ parts_over l.common l.probs;
  parts : All IsPart (take l.prob-index l.probs);
}
