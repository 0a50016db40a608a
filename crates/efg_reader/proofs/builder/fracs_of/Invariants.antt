-- A probability for each number so far.
use Rattle.std.proofs.Common.{◌≡◌, length, map, take}
use Rattle.std.specs.Prelude.{All}
use Rattle.number_words.specs.Number.{fraction_of}
use Rattle.efg_reader.specs.RawGame.{IsProbability}
use Rattle.efg_reader.proofs.builder.fracs_of.Given as goal

abbrev pub invariant-loop-number : goal.invariant-loop-number
invariant-loop-number l = record {
  count : length l.fracs ≡ l.number-index;
  values : l.fracs ≡ map fraction_of (take l.number-index l.numbers);
  parts : All IsProbability l.fracs;
}
