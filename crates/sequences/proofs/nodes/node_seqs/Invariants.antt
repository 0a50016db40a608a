-- Each node that a node gone over leads to has the number of its last own move.
use Rattle.std.proofs.Common.{◌≡◌, length}
use Rattle.tree_recall.proofs.HandedDown.{IsDown}
use Rattle.sequences.proofs.NodeSeqs.{Numbers}
use Rattle.sequences.proofs.nodes.node_seqs.Given as goal

abbrev pub invariant-loop-n : goal.invariant-loop-n
invariant-loop-n l = record {
  room : length l.seqs.items ≡ length l.game.nodes;
  down : IsDown (Numbers l.side l.game l.numbers.places.items) 0 l.game l.n l.seqs.items;
}
