-- Each side so far is in turn.
use Rattle.std.proofs.Common.{ℕ, ◌<◌}
use Rattle.plane_hull.specs.BeltFault.{IsInTurn}
use Rattle.plane_hull.proofs.belts.belt.Given as goal

abbrev pub invariant-loop-side : goal.invariant-loop-side
invariant-loop-side l = (k : ℕ) → k < l.side → IsInTurn l.points l.sides k
