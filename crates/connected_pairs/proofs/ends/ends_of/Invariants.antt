-- The ends of the last nodes are found.
use Rattle.std.proofs.Common.{◌≡◌, ◌-◌, length}
use Rattle.connected_pairs.proofs.RowEnds.{AreEnds}
use Rattle.connected_pairs.proofs.ends.ends_of.Given as goal

abbrev pub invariant-loop-done : goal.invariant-loop-done
invariant-loop-done l = (length l.ends.items ≡ length l.game.nodes) × AreEnds l.game (length l.game.nodes - l.done) l.ends.items
