-- The common multiple of the denominators so far is kept.
use Rattle.std.proofs.Common.{take}
use Rattle.number_words.specs.Chances.{common_denominator, IsKept}
use Rattle.number_words.proofs.chances.common_denominator.Given as goal

abbrev pub invariant-loop-prob : goal.invariant-loop-prob
invariant-loop-prob l = IsKept l.common (common_denominator (take l.prob-index l.probs))
