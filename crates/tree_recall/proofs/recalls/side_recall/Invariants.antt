-- The sets met so far come in order, every last move kept is at one of them, and it is that of the tree.
use Rattle.std.proofs.Common.{map}
use Rattle.tree_recall.proofs.Progress.{IsProgress, last_of}
use Rattle.tree_recall.proofs.Firsts.{AreFirsts}
use Rattle.tree_recall.proofs.Told.{IsTold}
use Rattle.tree_recall.proofs.recalls.side_recall.Given as goal

abbrev pub invariant-loop-n : goal.invariant-loop-n
invariant-loop-n l = record {
  numbers : IsProgress l.side l.game l.n l.above.items l.met.items;
  firsts : AreFirsts l.side l.game l.n l.met.items;
  tree : IsTold l.side l.game l.n l.above.items (map last_of l.met.items);
}
