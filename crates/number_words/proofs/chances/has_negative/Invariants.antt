-- None of the probabilities so far is below 0, so those behind them decide.
use Rattle.std.proofs.Common.{◌≡◌, drop}
use Rattle.number_words.specs.Chances.{has_negative}
use Rattle.number_words.proofs.chances.has_negative.Given as goal

abbrev pub invariant-loop-prob : goal.invariant-loop-prob
invariant-loop-prob l = has_negative (drop l.prob-index l.probs) ≡ has_negative l.probs
