-- The kids so far are the first of the subtrees, from the top on, and the others still wait.
use Rattle.std.proofs.Common.{◌≡◌, take, drop, reverse}
use Rattle.efg_reader.proofs.tree.take_kids.Given as goal

abbrev pub invariant-loop : goal.invariant-loop
invariant-loop l = record {
  kids : l.kids ≡ take l.counter (reverse l.initial.roots.items);
  rest : reverse l.roots.items ≡ drop l.counter (reverse l.initial.roots.items);
}
