-- No node so far has this one as a kid.
use Rattle.std.proofs.Common.{◌≡◌, ℕ, ◌<◌, Some}
use Rattle.tree_recall.specs.Tree.{kid_of}
use Rattle.plain_trees.proofs.own_moves.step_to.Given as goal

abbrev pub invariant-loop-m : goal.invariant-loop-m
invariant-loop-m l = (k action : ℕ) → k < l.m → kid_of l.game k action ≡ Some l.n → ⊥
