-- A probability for each action so far; with the values of the rest they are the values of all.
use Rattle.std.proofs.Common.{◌≡◌, vec_len, drop}
use Rattle.efg_reader.specs.Entry.{values, probability}
use Rattle.efg_reader.proofs.ListedValues.{behind}
use Rattle.efg_reader.proofs.entry.probs_of.Given as goal

abbrev pub invariant-loop-k : goal.invariant-loop-k
invariant-loop-k l = record {
  count : vec_len l.probs ≡ l.k;
  whole : behind l.probs.items (values probability (drop l.k l.acts)) ≡ values probability l.acts;
}
