-- The table keeps its size, and marks the sets of the nodes gone over.
use Rattle.std.proofs.Common.{◌≡◌, ◌≤◌, length, max}
use Rattle.connected_pairs.specs.Table.{IsMarkedBelow}
use Rattle.connected_pairs.proofs.table.connect_below.Given as goal

abbrev pub invariant-loop-n : goal.invariant-loop-n
invariant-loop-n l = record {
  size : length l.table.items ≡ length l.initial.table.items;
  near : l.n ≤ max l.first l.end;
  below : IsMarkedBelow l.game l.above.0 l.above.1.0 l.first l.n l.initial.table.items l.table.items;
}
