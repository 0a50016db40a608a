-- The digits read so far give a value below a power of ten, and reading on from it gives the word's value.
use Rattle.std.proofs.Common.{◌≡◌, ◌^◌, ◌<◌, drop}
use Rattle.std.specs.Str.{all_ascii_digits}
use Rattle.std.specs.Str.Parse.{digits_value_after, digits_value}
use Rattle.one_node_file.proofs.amounts.short_number.Given as goal

abbrev pub invariant-loop-byte : goal.invariant-loop-byte
invariant-loop-byte l = record {
  bound : l.value < 10 ^ l.byte-index;
  digits : all_ascii_digits (drop l.byte-index l.word) ≡ all_ascii_digits l.word;
  value : digits_value_after 10 l.value (drop l.byte-index l.word) ≡ digits_value 10 l.word;
}
