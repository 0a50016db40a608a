-- The names from the place on are the same exactly where all are.
use Rattle.std.proofs.Common.{◌≡◌, drop, length}
use Rattle.efg_reader.proofs.SameNames.{same_names}
use Rattle.efg_reader.proofs.set_lists.has_same_names.Given as goal

abbrev pub invariant-loop-k : goal.invariant-loop-k
invariant-loop-k l = record {
  long : length l.one ≡ length l.two;
  same : same_names l.one l.two ≡ same_names (drop l.k l.one) (drop l.k l.two);
}
