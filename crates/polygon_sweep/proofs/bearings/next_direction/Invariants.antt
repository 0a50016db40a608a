-- The direction kept is one of coprime numbers to which the direction turns, up to the bounds of the columns passed.
use Rattle.std.proofs.Common.{◌≤ℤ◌, ◌<◌, ℕ, pos}
use Rattle.bland_simplex.specs.Improving.{reduced}
use Rattle.polygon_sweep.specs.Swept.{IsCoprime}
use Rattle.polygon_sweep.specs.Turning.{TurnsTo}
use Rattle.polygon_sweep.proofs.bearings.next_direction.Given as goal

abbrev pub invariant-loop-col : goal.invariant-loop-col
invariant-loop-col g l =
    IsCoprime l.next × TurnsTo l.dir l.next
    × ((k : ℕ) → k < l.col → pos 0 ≤ℤ reduced (g.T.Tableau.content l.table) l.shape.rows l.next k)
