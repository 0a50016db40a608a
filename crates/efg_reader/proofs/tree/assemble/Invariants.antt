-- The nodes that are still listed stand before those that have their kids.
use Rattle.std.proofs.Common.{◌≡◌, ◌<◌, ◌^◌, ◌++◌, List, vec_len, length, reverse}
use Rattle.efg_reader.specs.declared.events.Bare.{Bare}
use Rattle.efg_reader.specs.Assembly.{assembled}
use Rattle.efg_reader.proofs.tree.assemble.Given as goal

abbrev pub invariant-loop-bare : goal.invariant-loop-bare
invariant-loop-bare l = record {
  rest : List Bare;
  listed : l.fn.listed.items ≡ l.bares.items ++ rest;
  few : length l.fn.listed.items < 2 ^ 32;
  nodes : reverse l.nodes.items ≡ (assembled (length l.bares.items) rest).0;
  roots : reverse l.roots.items ≡ (assembled (length l.bares.items) rest).1;
  count : length l.nodes.items ≡ length rest;
}

abbrev pub decreases-loop-bare : goal.decreases-loop-bare
decreases-loop-bare l = vec_len l.bares
