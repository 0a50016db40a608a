-- The digits read so far give a value below the end, and reading on from it gives the whole value.
use Rattle.std.proofs.Common.{◌≡◌, ◌<◌, drop}
use Rattle.std.specs.Str.{all_ascii_digits}
use Rattle.std.specs.Str.Parse.{digits_value_after}
use Rattle.number_words.proofs.values.number_behind.Given as goal

abbrev pub invariant-loop-byte : goal.invariant-loop-byte
invariant-loop-byte l = record {
  below : l.value < l.end;
  digits : all_ascii_digits (drop l.byte-index l.digits) ≡ all_ascii_digits l.digits;
  value : digits_value_after 10 l.value (drop l.byte-index l.digits) ≡ digits_value_after 10 l.front l.digits;
}
