-- The bytes so far are 0, so those behind them decide.
use Rattle.std.proofs.Common.{◌≡◌, drop}
use Rattle.number_words.specs.Words.{is_null}
use Rattle.number_words.proofs.words.is_null.Given as goal

abbrev pub invariant-loop-byte : goal.invariant-loop-byte
invariant-loop-byte l = is_null (drop l.byte-index l.word) ≡ is_null l.word
