-- The node has the own sequence of each node of its set so far.
use Rattle.std.proofs.Common.{ℕ, ◌<◌}
use Rattle.plain_trees.specs.Remembering.{AreAlikeAt}
use Rattle.plain_trees.proofs.own_moves.is_alike_from.Given as goal

abbrev pub invariant-loop-n : goal.invariant-loop-n
invariant-loop-n l = (k : ℕ) → k < l.n → AreAlikeAt l.game l.side l.m k
