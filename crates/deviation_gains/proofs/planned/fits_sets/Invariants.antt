-- The sets gone over fit.
use Rattle.std.proofs.Common.{ℕ, ◌<◌}
use Rattle.deviation_gains.specs.Planned.{FitsAt}
use Rattle.deviation_gains.proofs.planned.fits_sets.Given as goal

abbrev pub invariant-loop-set : goal.invariant-loop-set
invariant-loop-set l = (set : ℕ) → set < l.set → FitsAt l.side l.game l.plan set
