-- The nodes so far have the own sequences of all nodes of their sets.
use Rattle.std.proofs.Common.{ℕ, ◌<◌}
use Rattle.plain_trees.specs.Remembering.{AreAlikeAt}
use Rattle.plain_trees.proofs.own_moves.has_recall.Given as goal

abbrev pub invariant-loop-m : goal.invariant-loop-m
invariant-loop-m l = (k n : ℕ) → k < l.m → AreAlikeAt l.game l.side k n
