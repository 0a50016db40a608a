-- What is left is a solution, and with what the entries sum to it makes the values; each entry has cost a positive value.
use Rattle.std.proofs.Common.{◌≡◌, ◌+◌, ◌≤◌, All, length}
use Rattle.corr_num.specs.Narrow.{Narrow}
use Rattle.plan_decompose.specs.Entry.{IsEntry}
use Rattle.plan_decompose.specs.Solution.{IsSolution, positives}
use Rattle.plan_decompose.proofs.Sums.{AreShared}
use Rattle.plan_decompose.proofs.decompositions.decompose.Given as goal

abbrev pub invariant-loop-list : goal.invariant-loop-list
invariant-loop-list l = record {
  entries : All (IsEntry l.game l.pairs.seqs) l.list;
  as_many : length l.rest.items ≡ length l.pairs.pairs;
  narrow : All Narrow l.rest.items;
  left : positives l.rest.items + length l.list ≤ length l.pairs.pairs;
  solution : IsSolution l.pairs l.rest.items;
  shared : AreShared l.pairs l.list l.rest.items l.fn.values;
}

abbrev pub decreases-loop-list : goal.decreases-loop-list
decreases-loop-list l = positives l.rest.items
