-- The nodes that wait for no more kids go, and no kid that is waited for.
use Rattle.std.proofs.Common.{◌≡◌, vec_len, sum, reverse}
use Rattle.efg_reader.specs.Above.{without_complete}
use Rattle.efg_reader.proofs.outline.drop_complete.Given as goal

abbrev pub invariant-loop-awaited : goal.invariant-loop-awaited
invariant-loop-awaited l = record {
  sum : sum l.awaited.items ≡ sum l.initial.awaited.items;
  above : without_complete (reverse l.awaited.items) ≡ without_complete (reverse l.initial.awaited.items);
}

abbrev pub decreases-loop-awaited : goal.decreases-loop-awaited
decreases-loop-awaited l = vec_len l.awaited
