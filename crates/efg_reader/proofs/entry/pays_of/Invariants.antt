-- The values so far, with those of the rest, are the values of all.
use Rattle.std.proofs.Common.{◌≡◌, drop}
use Rattle.number_words.specs.Value.{number_value}
use Rattle.efg_reader.specs.Entry.{values}
use Rattle.efg_reader.proofs.ListedValues.{behind}
use Rattle.efg_reader.proofs.entry.pays_of.Given as goal

abbrev pub invariant-loop-k : goal.invariant-loop-k
invariant-loop-k l = behind l.pays.items (values number_value (drop l.k l.words)) ≡ values number_value l.words
