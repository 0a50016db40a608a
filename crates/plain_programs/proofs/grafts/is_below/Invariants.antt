-- What the nodes left give is what all nodes give.
use Rattle.std.proofs.Common.{◌≡◌, drop}
use Rattle.equilibrium.specs.Reach.{has_below}
use Rattle.plain_programs.proofs.grafts.is_below.Given as goal

abbrev pub invariant-loop-n : goal.invariant-loop-n
invariant-loop-n l = has_below l.side l.game l.above.0 l.set.0
    (drop l.n l.game.nodes) ≡ has_below l.side l.game l.above.0 l.set.0 l.game.nodes
