-- Each side so far pairs up.
use Rattle.std.proofs.Common.{ℕ, ◌<◌}
use Rattle.plane_hull.specs.Round.{PairsUp}
use Rattle.plane_hull.proofs.belts.all_pair_up.Given as goal

abbrev pub invariant-loop-side : goal.invariant-loop-side
invariant-loop-side l = (k : ℕ) → k < l.side → PairsUp l.sides k
