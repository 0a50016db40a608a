-- What the bytes behind the first i give, and i, are what all the bytes give.
use Rattle.std.proofs.Common.{◌≡◌, ◌+◌, drop}
use Rattle.std.specs.Prelude.{option_map}
use Rattle.efg_token.specs.Front.{text_length}
use Rattle.efg_token.proofs.cutting.text_length.Given as goal

abbrev pub invariant-loop-i : goal.invariant-loop-i
invariant-loop-i l = option_map (λ n. n + l.i) (text_length l.before (drop l.i l.bytes)) ≡ text_length 34 l.bytes
